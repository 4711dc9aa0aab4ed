pub mod LeftWords
pub mod ObjectCopied
pub mod TableCopied
pub mod NewPlace
