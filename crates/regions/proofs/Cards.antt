pub mod Written
pub mod FirstTile
pub mod CardStarts
pub mod FirstTiles
pub mod Entries
pub mod ValueRuns
pub mod Given
