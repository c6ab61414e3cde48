pub mod Positions
pub mod TableTextLemmas
pub mod OrderLemmas
pub mod AcceptanceLemmas
