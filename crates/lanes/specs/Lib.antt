-- What the lane report says of a run, and of an input.
pub mod Lag
pub mod Report
pub mod Kept
pub mod Example
