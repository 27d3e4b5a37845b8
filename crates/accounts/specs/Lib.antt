-- The accounts as they are kept while records are served.
pub mod Accounts
