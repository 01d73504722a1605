pub mod Walks
pub mod Frames
pub mod Faults
pub mod Found
pub mod Surveys
pub mod Spreads
pub mod Flaws
pub mod Functions
