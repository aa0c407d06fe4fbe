-- Document 01, "House file": what `show` prints.
pub mod Printed
pub mod Showing
pub mod Steps
pub mod Examples
