-- to be believed
pub mod Said
pub mod JsonErrors
pub mod CborErrors
-- for private clauses
pub mod Private
