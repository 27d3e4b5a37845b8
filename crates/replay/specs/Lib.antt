-- What a replay of records promises.
pub mod Replay
pub mod Parts
