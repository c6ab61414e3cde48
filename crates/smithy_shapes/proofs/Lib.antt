mod StandardFacts
mod OnLiterals
mod Closed
mod BuildLemmas
mod AcceptedLemmas
mod NameLemmas
pub mod ChildLemmas
pub mod DocumentLemmas
pub mod NestingLemmas
pub mod NamedLemmas
pub mod SiteLemmas
mod MembersLemmas
mod RowLemmas
pub mod ScalarLemmas
pub mod TimeFormLemmas
pub mod InstantLemmas
pub mod InstantTexts
pub mod TargetLemmas
-- containers that are half read, from the contract alone
pub mod Inner
