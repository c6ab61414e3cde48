-- to be believed
pub mod Metadata
-- for laws
pub mod Private
