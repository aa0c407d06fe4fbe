-- Document 01, "Sheet": the blocks of a sheet.
pub mod Grid
pub mod Samples
pub mod Examples
pub mod Neighbours
pub mod Counts
pub mod NeighbourCases
pub mod NeighbourExamples
