-- Laws of the calls for C.
pub mod Built
pub mod PatternLaws
pub mod Uncited
