-- What the report program keeps true from read to read.
pub mod Going
