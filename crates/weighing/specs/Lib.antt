pub mod Alphabets
pub mod Hard
pub mod Levels
pub mod Scales
pub mod Symbols
