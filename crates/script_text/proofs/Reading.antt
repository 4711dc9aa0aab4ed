-- Reading: where the step of an event ends, that twelve words of a line tell as much as all, how reading goes on line
-- by line, and where it stops for want of memory.
pub mod Twelve
pub mod TwelveEvents
pub mod Parting
pub mod ReadOn
pub mod Stops
pub mod RecordStops
pub mod LeftSteps
pub mod LeftEvents
pub mod Operands
pub mod Fitting
pub mod StepsFit
