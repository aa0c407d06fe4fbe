-- Document 01, "Choice": demand 3.
pub mod Law
pub mod Cases
