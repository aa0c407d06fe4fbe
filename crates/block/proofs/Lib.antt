-- Laws of blocks.
pub mod BlockLaws
