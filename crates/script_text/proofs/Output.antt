-- Writing: the digits of a number, what is written and what is still held, and the lines of a record one after another.
pub mod Digits
pub mod WriteLaws
pub mod RecordLaws
pub mod LinesOut
pub mod Counts
pub mod Lines
