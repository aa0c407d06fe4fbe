-- Document 01, "Side depths" and "Predicted block".
pub mod Block
pub mod Answer
pub mod Cases
pub mod Sides
pub mod SideAnswer
pub mod Transposed
