pub mod Sets
pub mod Owed
pub mod Sharing
pub mod Inside
