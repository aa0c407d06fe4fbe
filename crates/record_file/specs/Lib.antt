-- Document 01, "House file": the file's text, and what reading and writing it say.
pub mod Text
pub mod Reading
pub mod Writing
pub mod Examples
