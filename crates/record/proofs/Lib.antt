-- Laws of the definitions.
pub mod MeaningLaws
pub mod LentLaws
pub mod Uncited
