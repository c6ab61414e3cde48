-- to be believed, in this order
pub mod Percent
pub mod Form
pub mod Split
-- what contracts see of a writer
pub mod Writer
-- for private clauses
pub mod Private
