-- Many ticks at once: what they come to, whom they charge, and when a wait ends.
pub mod Ticks
pub mod Charges
pub mod Nearest
