pub mod Greedy
pub mod Cuts
pub mod Steps
pub mod Choosing
pub mod Planned
pub mod Answered
pub mod Members
