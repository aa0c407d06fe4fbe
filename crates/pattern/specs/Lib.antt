-- The definitions that the contracts of `pattern` cite.
pub mod Refusal
pub mod Size
pub mod Pattern
pub mod Words
pub mod Contour
pub mod Answer
pub mod Examples
