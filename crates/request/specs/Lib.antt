-- How a request is written.
pub mod Written
pub mod Trips
