-- What callers use of a reading.
pub mod Means
