-- The worked cases, and the proof of the law.
pub mod Cases
pub mod Level
