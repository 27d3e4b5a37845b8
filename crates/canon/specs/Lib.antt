-- Words for the tests of bytes.
pub mod Zero
