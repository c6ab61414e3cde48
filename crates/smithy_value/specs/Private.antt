-- Words that private clauses cite.
pub mod Items
pub mod Leaves
pub mod Placed
pub mod Runs
