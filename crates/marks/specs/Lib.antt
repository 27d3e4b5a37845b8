-- Words for lines in code, and for lines by number and by mark.
pub mod Named
pub mod Numbers
pub mod Marks
