mod LongRuns
mod LongLists
mod Examples
mod StandardFacts
mod WireFacts
mod MeaningFacts
mod InstantFacts
mod DocumentFacts
mod WritingFacts
mod EntryFacts
pub mod ReaderLemmas
pub mod SkippedValues
pub mod ContainerEnds
pub mod DeserializerLemmas
pub mod KeyLemmas
pub mod MemberStepLemmas
pub mod PassedEntryLemmas
pub mod WritingLemmas
pub mod InstantTexts
pub mod WrittenIntegers
pub mod WrittenLeaves
pub mod WrittenPlaces
pub mod DocumentTexts
pub mod WrittenDocuments
pub mod WrittenBody
pub mod WrittenSpelling
pub mod ScalarReads
pub mod NumberReads
pub mod InstantWriting
