pub mod Answers
pub mod Bounds
pub mod Embedding
pub mod FaultNames
pub mod Outline
pub mod Unpacking
