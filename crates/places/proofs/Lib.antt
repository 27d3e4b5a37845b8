-- Laws of threads that stand in a ring.
pub mod Below
pub mod Ring
