-- Laws of the definitions.
pub mod Bools
pub mod Sums
pub mod BitLaws
pub mod ListLaws
pub mod SquareLaws
pub mod LeastLaws
pub mod CheckLaws
pub mod WholeLaws
pub mod RaisedLaws
