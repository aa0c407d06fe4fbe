-- Laws of the definitions.
pub mod StateLaws
pub mod MeaningLaws
pub mod PlaceLaws
pub mod OtherLaws
pub mod ComposeLaws
pub mod TurnLaws
pub mod TurnEnds
pub mod EndLaws
pub mod InTurnLaws
pub mod ComposedLaws
pub mod FinishedLaws
pub mod SideLaws
pub mod DrawLaws
pub mod RefusalLaws
pub mod RowLaws
pub mod Uncited
