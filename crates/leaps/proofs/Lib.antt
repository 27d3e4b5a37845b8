-- Why many ticks can be done at once.
pub mod Further
pub mod Turns
pub mod Passing
pub mod Leap
pub mod Dues
pub mod Turned
pub mod Rounds
pub mod Leaps
pub mod Charges
pub mod Doored
pub mod Nearest
