pub mod Verdicts
pub mod Books
pub mod Calls
pub mod Laying
pub mod Runs
