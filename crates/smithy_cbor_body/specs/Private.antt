-- Words that private clauses cite, and the proofs of the laws.
pub mod MadeStates
pub mod Beginning
