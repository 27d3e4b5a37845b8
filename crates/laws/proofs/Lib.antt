-- Laws of the rules.
pub mod Split
pub mod Bitwise
pub mod Reflect
pub mod Counts
pub mod Sums
pub mod Words
pub mod Lines
pub mod Members
pub mod Moves
pub mod Placed
pub mod Ahead
pub mod Places
pub mod Records
pub mod Tested
pub mod Top
pub mod Turns
pub mod Word
