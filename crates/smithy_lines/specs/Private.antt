-- Words that private clauses cite.
pub mod Batches
pub mod SoFar
