pub mod Numbers
pub mod Coding
pub mod Hearing
