-- to be believed
pub mod Generated
pub mod GeneratedShapes
-- for private clauses
pub mod Private
