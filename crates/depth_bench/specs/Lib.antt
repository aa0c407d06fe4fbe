-- What C's calls stand for, and what they return.
pub mod Built
pub mod Structs
