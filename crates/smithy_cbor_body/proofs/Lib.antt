pub mod WrittenLeaves
pub mod WrittenPlaces
pub mod NumberWriting
pub mod WritingLemmas
mod LongLists
pub mod InstantWriting
