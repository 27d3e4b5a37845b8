-- Laws of the programs' turns.
pub mod Turns
