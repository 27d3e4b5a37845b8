-- Laws of the ready word that functions cite.
pub mod Mended
pub mod Topmost
