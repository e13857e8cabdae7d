pub mod Register
pub mod Rows
pub mod Messages
pub mod Filling
pub mod Columns
pub mod Places
pub mod Calls
pub mod Shapes
