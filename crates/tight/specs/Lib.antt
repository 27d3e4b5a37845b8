-- What the functions' own contracts say: each determines its answer and every byte it was lent, and the door's meets the demands.
pub mod Promise
pub mod Each
pub mod Readers
pub mod Kernel
