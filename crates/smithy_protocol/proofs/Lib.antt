mod HeaderLemmas
pub mod CanonicalBodies
