pub mod Rows
pub mod Nils
pub mod Apart
pub mod Redirected
