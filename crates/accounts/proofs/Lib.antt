-- Laws of accounts.
pub mod Accounts
pub mod Leapt
pub mod Credits
pub mod Accepted
pub mod Counted
pub mod Served
