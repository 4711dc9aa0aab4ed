pub mod RootWords
pub mod VisitedCards
pub mod OutsideCards
pub mod Visits
pub mod ObjectFields
pub mod Destinations
