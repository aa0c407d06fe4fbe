-- What the calls return.
pub mod Structs
