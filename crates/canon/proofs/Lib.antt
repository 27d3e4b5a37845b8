-- Laws that the tests of bytes cite, and what a record of zeros is, byte by byte.
pub mod Zeros
