pub mod Rounds
pub mod Pieces
