-- The listing of request records: one line, a whole text, what holds of both, and a text that comes in parts.
pub mod Line
pub mod Listing
pub mod Trips
pub mod Parts
