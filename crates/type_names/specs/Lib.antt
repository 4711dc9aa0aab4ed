pub mod NamedLines
pub mod Naming
pub mod FaultTexts
pub mod Tables
