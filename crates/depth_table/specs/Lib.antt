-- Document 01, "Depth table".
pub mod Table
pub mod Nearest
pub mod Answer
pub mod Examples
pub mod Offset
