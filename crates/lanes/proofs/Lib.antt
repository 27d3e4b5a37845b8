-- Why a lane that demand 3 covers has no lag after whole rounds and a bounded one between them, and laws of the report.
pub mod Lag
pub mod Lines
pub mod Bound
pub mod Unread
pub mod Tried
