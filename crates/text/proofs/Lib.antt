-- Laws of what is printed.
pub mod Decimal
pub mod Sign
pub mod Room
pub mod Putting
pub mod Tried
