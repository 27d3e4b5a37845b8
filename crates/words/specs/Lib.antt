-- Words for numbers of more than four bytes.
pub mod Long
