-- Document 01, "House file": what reading answers, and what it leaves of what is lent.
pub mod Back
pub mod Told
pub mod Step
