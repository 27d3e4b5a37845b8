-- Demand 3 over states: the words that it uses of a run, which runs a door makes, the claim, and what holds between whole rounds.
pub mod Run
pub mod Doors
pub mod Fair
pub mod Lateness
