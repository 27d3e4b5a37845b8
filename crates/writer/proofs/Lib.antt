-- Laws of a line and its fields, and of places in a block.
pub mod Lines
pub mod Block
pub mod Pieces
pub mod Left
pub mod Stored
