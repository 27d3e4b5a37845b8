-- A law of a buffer's place.
pub mod Place
