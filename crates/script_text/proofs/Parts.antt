-- The parts of a text: numbers, the words of a line, how a line is split into its words, and a text after its first
-- line.
pub mod Numbers
pub mod Spelled
pub mod Rows
pub mod Splitting
pub mod Fronts
pub mod Pieces
pub mod FirstLines
pub mod WholeLines
pub mod Waiting
pub mod Refused
