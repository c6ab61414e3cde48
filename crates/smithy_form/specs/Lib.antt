-- to be believed, in this order
pub mod Lookup
pub mod Plain
pub mod Pairs
pub mod Forms
pub mod ReadsForm
pub mod Laws
-- for private clauses, and for the laws
pub mod Private
