-- Words that private clauses cite.
pub mod Nodes
pub mod Pairs
pub mod Refusals
pub mod Standing
pub mod Taking
