-- Document 01, "Choice".
pub mod Record
pub mod Search
pub mod Cases
pub mod Picked
pub mod Answer
pub mod Examples
pub mod Case
pub mod Refusal
pub mod Offset
pub mod Cost
pub mod Tally
pub mod Trial
pub mod Sums
pub mod Layers
pub mod Turn
pub mod Reach
