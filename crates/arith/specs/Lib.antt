-- Definitions that several sections share. Nothing here names the bench.
pub mod Distance
pub mod Sum
pub mod Bits
pub mod Lists
pub mod Square
pub mod Least
pub mod Checks
pub mod Raised
