-- Words that private clauses cite.
pub mod Positions
pub mod ReadWhole
pub mod Standing
pub mod ValueTest
