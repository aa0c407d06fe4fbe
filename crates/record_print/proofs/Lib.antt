-- Laws of writing texts to lent bytes.
pub mod WriteSteps
pub mod DecimalLaws
pub mod LineSteps
pub mod PutLaws
pub mod LoopLaws
pub mod Uncited
