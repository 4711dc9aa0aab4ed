pub mod Tiles
pub mod Table
pub mod Shapes
pub mod Walks
pub mod Shaped
pub mod Rows
pub mod FirstTiles
pub mod WeakStarts
