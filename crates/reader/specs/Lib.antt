-- What a reader finds in a trace.
pub mod Reading
