-- Soundness is kept.
pub mod Fit
pub mod Changes
pub mod Waits
pub mod Settled
pub mod Safe
pub mod Threads
pub mod Mail
pub mod Semaphores
pub mod Time
pub mod Sleep
pub mod Frame
pub mod Steps
