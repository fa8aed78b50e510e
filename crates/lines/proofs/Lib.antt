-- Lines and fields as numbers, lines that are too long, numbers beside their widths, an input by its lines, and cases
-- that compute.
pub mod Values
pub mod Long
pub mod Widths
pub mod Input
pub mod Steps
pub mod Room
pub mod Cases
pub mod InputCases
