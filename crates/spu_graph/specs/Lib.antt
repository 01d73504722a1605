pub mod Cycles
pub mod Edges
pub mod Graphs
pub mod Known
pub mod Paths
pub mod Peeling
pub mod Reaching
pub mod Tracing
