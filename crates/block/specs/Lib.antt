pub mod Bits
pub mod Computed
pub mod Refusals
pub mod Sizes
pub mod Checks
