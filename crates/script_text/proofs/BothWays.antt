-- The laws both ways: what is read is spelled so, and what is spelled so is read, for steps, replies, events, whole
-- scripts and whole records.
pub mod Grammars
pub mod Actions
pub mod Allowed
pub mod Collections
pub mod ReplyLaws
pub mod StepsRead
pub mod EventsRead
pub mod Lengths
pub mod StepsSpelled
pub mod EventsSpelled
pub mod ItemTexts
pub mod Texts
pub mod RecordTexts
pub mod Extended
