pub mod Listed
pub mod Flushed
pub mod Dirtied
pub mod Fields
pub mod Laws
pub mod Flagged
