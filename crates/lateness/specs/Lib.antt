-- What holds between whole rounds, for an auditor to read with demand 3 beside it.
pub mod Moments
pub mod Stands
pub mod Reached
pub mod Needed
pub mod Broken
pub mod Lags
