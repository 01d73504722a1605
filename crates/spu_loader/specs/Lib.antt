pub mod Forms
pub mod Code
pub mod Overlays
pub mod Entries
pub mod Samples
