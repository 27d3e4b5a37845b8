-- Words for the test of a table.
pub mod Tested
