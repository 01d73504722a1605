pub mod Adding
pub mod Instructions
pub mod Pointing
pub mod Needs
pub mod Cycles
pub mod Promised
