-- Laws of the definitions of `pattern`.
pub mod SizeLaws
pub mod WordLaws
pub mod PatternLaws
pub mod ContourLaws
pub mod AnswerLaws
pub mod Uncited
