-- to be believed, in this order
pub mod Leaves
pub mod Canonical
pub mod Nulls
pub mod Writable
pub mod Refusals
pub mod Counts
pub mod Distinct
-- for contracts
pub mod Writing
pub mod Serializing
-- the calls of writing nest
pub mod Nesting
-- for private clauses, and for the laws
pub mod Private
