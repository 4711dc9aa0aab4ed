pub mod Bits
pub mod BitWords
pub mod Bounded
pub mod Pages
