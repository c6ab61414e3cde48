-- to be believed, in this order
pub mod Tree
pub mod FirstPath
pub mod Compares
pub mod PathText
-- what the types of the program stand for
pub mod View
-- for private clauses
pub mod Private
