-- Document 01, "Sheet".
pub mod State
pub mod Place
pub mod Compose
pub mod Told
pub mod Laws
pub mod Examples
pub mod Checks
pub mod Runs
pub mod Next
