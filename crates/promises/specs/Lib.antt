-- What is promised, for an auditor to read with document 01 beside it.
pub mod Refusals
pub mod Narrowed
pub mod Malformed
pub mod Ahead
pub mod Word
pub mod Demand1
pub mod Demand2
pub mod Demand3
pub mod Slept
pub mod FormerSet
pub mod Figures
pub mod Rounds
pub mod Lanes
pub mod Incident
pub mod Rejected
