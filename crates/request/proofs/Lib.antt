-- What is written is read back.
pub mod Back
pub mod Parts
pub mod Trips
