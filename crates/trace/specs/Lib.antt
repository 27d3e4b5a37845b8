-- What the trace program keeps true from read to read.
pub mod Going
