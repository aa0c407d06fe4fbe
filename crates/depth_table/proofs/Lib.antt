-- Laws of the depth table.
pub mod TableLaws
pub mod IndexLaws
pub mod NearestLaws
pub mod OffsetLaws
pub mod LevelLaws
pub mod RaisedLaws
pub mod Uncited
