pub mod Edges
pub mod Judged
pub mod Answers
pub mod Building
