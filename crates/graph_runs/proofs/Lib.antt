pub mod Collected
pub mod MachineLaws
pub mod RunLaws
pub mod RunOnce
pub mod Sound
pub mod SinceLaws
