-- A log read and written again. Nothing is proved here.
pub mod Sequence
pub mod Rewriting
pub mod RoundTrip
pub mod Printed
