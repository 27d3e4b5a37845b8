-- Laws of many ticks on a table.
pub mod Ends
pub mod Arms
pub mod Leaping
