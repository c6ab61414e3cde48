mod LongLists
mod LongRuns
mod OnLiterals
mod Examples
mod EncodedItems
mod MeaningFacts
mod InstantFacts
mod DocumentFacts
mod SpellingFacts
mod WritingFacts
mod StandingFacts
pub mod WrittenBody
pub mod WrittenSpelling
pub mod EntryLemmas
pub mod PassedEntryLemmas
pub mod ReaderLemmas
pub mod SkippedValues
pub mod DeserializerLemmas
pub mod MapAnswers
pub mod SpanLemmas
pub mod MemberStepLemmas
pub mod PrefixLemmas
pub mod DocumentReads
