-- Words for threads that stand in a ring.
pub mod Rings
