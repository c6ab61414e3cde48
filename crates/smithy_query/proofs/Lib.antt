pub mod PercentLemmas
pub mod SliceLemmas
pub mod PlaceLemmas
pub mod SplitLemmas
pub mod OnLiterals
mod StandardFacts
