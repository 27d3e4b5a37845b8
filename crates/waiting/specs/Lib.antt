-- What an operation says of the table that it is lent.
pub mod Does
