pub mod Marks
pub mod Tops
pub mod Grey
pub mod Kept
pub mod Live
pub mod Summary
pub mod Stack
