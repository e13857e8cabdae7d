pub mod Bools
pub mod Computed
pub mod Laws
pub mod Octets
pub mod Ranges
