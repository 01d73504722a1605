pub mod Outside
pub mod FaultLog
pub mod NameTable
pub mod MemFiles
pub mod MemSink
pub mod Quiet
pub mod Transfer
pub mod Disk
