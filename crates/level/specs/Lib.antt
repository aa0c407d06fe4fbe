-- Document 02, Ask 8: the level law.
pub mod Law
pub mod Cases
