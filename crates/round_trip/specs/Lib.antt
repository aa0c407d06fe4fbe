-- Document 01, "House file": the round trips.
pub mod Law
pub mod Examples
