pub mod Handles
pub mod Values
pub mod Filling
pub mod Loading
pub mod FreeRuns
pub mod FoundWays
