pub mod Lists
pub mod Fields
pub mod Tiles
pub mod Shares
pub mod Numbers
