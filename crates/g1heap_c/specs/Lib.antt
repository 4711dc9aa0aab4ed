pub mod Calls
pub mod Runs
pub mod Policies
pub mod MadeFilled
pub mod Noted
pub mod Versions
pub mod Memory
