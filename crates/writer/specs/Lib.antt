-- What the code promises of a line and its record, and of a block.
pub mod Lines
pub mod Places
