-- What the programs over a listing keep true from read to read.
pub mod Going
