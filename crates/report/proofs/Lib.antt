-- Why the report program goes on as its input does.
pub mod Turns
