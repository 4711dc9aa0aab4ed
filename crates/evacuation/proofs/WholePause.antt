pub mod Beginning
pub mod Asked
pub mod HeapAfter
pub mod ChosenReleased
pub mod RisingQueue
