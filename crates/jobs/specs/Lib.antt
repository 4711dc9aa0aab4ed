pub mod Verdicts
pub mod Explanations
pub mod Followed
pub mod Replays
pub mod Reasons
