pub mod Buffers
pub mod Eights
pub mod Ordered
pub mod Rowed
pub mod Runs
pub mod Steps
