-- Laws of replays.
pub mod Line
pub mod Found
pub mod Progress
pub mod InPlace
pub mod Parts
