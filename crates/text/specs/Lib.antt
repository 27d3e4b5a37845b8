-- What the trace program prints.
pub mod Text
pub mod Rooms
pub mod Puts
pub mod Example
