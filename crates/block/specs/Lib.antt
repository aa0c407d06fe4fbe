-- The definitions that the contracts of `block` cite.
pub mod Block
pub mod Answer
pub mod Examples
