-- to be believed, in this order
pub mod Findings
pub mod Nesting
pub mod Lint
-- what the types of the program stand for
pub mod View
-- for private clauses
pub mod Private
