-- Words that private clauses cite, and the proofs of the laws.
pub mod PassedEntries
pub mod MemberSteps
pub mod Spans
