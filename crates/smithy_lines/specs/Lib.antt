-- to be believed, in this order
pub mod Lines
pub mod Answered
pub mod Sources
-- for private clauses
pub mod Private
