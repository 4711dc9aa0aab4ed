pub mod FaultLines
pub mod Runs
pub mod Answers
