mod MeaningFacts
mod DocumentFacts
mod CountingFacts
pub mod WritingLemmas
pub mod OpenLemmas
pub mod CountLemmas
pub mod ConsumingLemmas
mod FewCalls
pub mod WrittenLemmas
pub mod WrittenLists
pub mod WrittenByHand
pub mod ReadContainers
pub mod ReadLists
pub mod ReadMaps
pub mod ReadStructures
pub mod ReadUnions
-- what consumers have read
pub mod Blame
pub mod ConsumedLists
pub mod ReadElements
pub mod ConsumedMaps
pub mod ReadTexts
pub mod ConsumedStructures
pub mod RefusedStructures
pub mod DeclaredMembers
pub mod ReadFields
pub mod AnsweredErrors
pub mod TypedReads
-- a type that holds itself
pub mod HalfRead
-- what is written of fields
pub mod WrittenFields
pub mod HalfWritten
