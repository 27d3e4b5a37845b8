pub mod Computing
pub mod Tried
