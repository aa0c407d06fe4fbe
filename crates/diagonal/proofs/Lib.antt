-- The worked cases, and the proof of the law.
pub mod Cases
pub mod TransposedLaws
pub mod RecordLaws
pub mod PartnerLaws
pub mod TriedLaws
pub mod Diagonal
