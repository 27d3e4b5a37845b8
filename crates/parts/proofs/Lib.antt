-- Laws of an input that comes in parts.
pub mod Whole
pub mod Behind
pub mod Moved
