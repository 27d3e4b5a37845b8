-- Why a lane is never far from its share nor late for it, of runs through bytes and the door.
pub mod Moments
pub mod Stands
pub mod Reached
pub mod Needed
pub mod Broken
pub mod Lags
