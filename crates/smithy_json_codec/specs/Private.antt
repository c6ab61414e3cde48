-- for the laws of writing
pub mod MadeStates
-- for the clauses of private functions
pub mod PassedEntries
pub mod MemberSteps
