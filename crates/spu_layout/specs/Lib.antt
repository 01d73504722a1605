pub mod Layouts
pub mod Labels
pub mod Placing
pub mod Views
pub mod Samples
pub mod Planned
pub mod PlannedSamples
