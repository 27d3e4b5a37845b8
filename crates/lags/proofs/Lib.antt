-- Laws of the report's figures and lines.
pub mod Difference
pub mod Turned
