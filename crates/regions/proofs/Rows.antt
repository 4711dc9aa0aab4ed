pub mod RowLemmas
pub mod RowWrites
pub mod Search
pub mod Fronts
pub mod Counting
pub mod UsedBelow
pub mod Sound
pub mod Cut
