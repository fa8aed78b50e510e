-- The three demands, a file each; the round trip of the log's writer and reader; the trace of a kernel; a log as
-- comma-separated lines and back. The statements are what a reader opens first, and Example meets what they ask.
pub mod DemandOne
pub mod DemandTwo
pub mod DemandThree
pub mod RoundTrip
pub mod KernelTraces
pub mod Spreadsheets
pub mod Example
