pub mod OnLiterals
mod StandardFacts
mod DocumentFacts
pub mod PairLemmas
pub mod PathLemmas
pub mod SegmentLemmas
pub mod LeafLemmas
pub mod Forms
pub mod WritingLemmas
pub mod RefusalLemmas
pub mod AcceptedForms
pub mod ByteLemmas
pub mod DistinctLemmas
pub mod PathTexts
pub mod ReadableLeaves
pub mod DistinctTexts
pub mod WholeForms
pub mod InstantWriting
pub mod LeafWriting
