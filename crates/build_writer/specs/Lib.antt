pub mod MemoryTable
pub mod Sink
