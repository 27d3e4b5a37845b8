-- Laws of lines in code, and of lines by number and by mark.
pub mod Named
pub mod Numbered
pub mod Marked
