-- Laws of the wedgelet list.
pub mod LineLaws
pub mod HalfLaws
pub mod PointLaws
pub mod Growth
pub mod Chain
pub mod EntryLaws
pub mod WedgeletLaws
pub mod Front
pub mod AnswerLaws
