-- Laws of the definitions of `record_text`.
pub mod ParsedLaws
pub mod NumeralLaws
pub mod FieldLaws
pub mod SignLaws
pub mod ReadSteps
pub mod LineLaws
pub mod LineSteps
pub mod LengthLaws
pub mod LinesLaws
pub mod ItemLaws
pub mod LoopLaws
pub mod Uncited
