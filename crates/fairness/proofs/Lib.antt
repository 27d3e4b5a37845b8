-- Why each thread gets its own turn, and why it is never far from its share nor late for it.
pub mod Spent
pub mod Rank
pub mod Keeps
pub mod Operations
pub mod View
pub mod Ticks
pub mod Fair
pub mod Lateness
pub mod Calls
pub mod Doors
