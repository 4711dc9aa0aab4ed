pub mod Updated
pub mod Written
pub mod InTable
pub mod FieldCards
