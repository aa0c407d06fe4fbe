-- Laws of the definitions.
pub mod GridLaws
pub mod SampleLaws
pub mod FilledLaws
pub mod HoldingLaws
pub mod NeighbourLaws
pub mod WalkLaws
pub mod CountLaws
pub mod PlacedLaws
pub mod SourceLaws
pub mod NeighbourCaseLaws
