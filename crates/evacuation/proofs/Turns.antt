pub mod Following
pub mod KeptObjects
pub mod AllCopied
