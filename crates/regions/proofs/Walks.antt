pub mod WalkLaws
pub mod WalkMade
pub mod WalkFrom
pub mod WalkTiles
