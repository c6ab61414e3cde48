-- For contracts.
pub mod Cursor
pub mod Serializing
-- For private clauses, and for the laws.
pub mod Private
