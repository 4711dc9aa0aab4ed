pub mod KeptObjects
pub mod Noted
pub mod Redirecting
pub mod Written
pub mod Cards
pub mod Own
pub mod Whole
