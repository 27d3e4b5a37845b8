-- What the report is made of, and its room.
pub mod Room
