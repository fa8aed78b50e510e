-- What the writer of a log answers and leaves. Nothing is proved here.
pub mod Writing
