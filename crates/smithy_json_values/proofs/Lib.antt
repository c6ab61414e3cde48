mod SettingsFacts
mod StandingFacts
mod TypeFacts
pub mod SpellingLemmas
pub mod ScannedPlaces
pub mod FirstBytePlaces
mod LongRuns
pub mod TypeLemmas
pub mod FirstBytes
pub mod ScannedStrings
pub mod LiteralPlaces
pub mod StringsOf
pub mod OptionLemmas
pub mod TextLemmas
pub mod PlacedTextLemmas
pub mod NextInContainerLemmas
pub mod ValueFirstByte
pub mod NodeFirstBytes
pub mod ScalarLemmas
pub mod SkipSteps
pub mod OpenContainers
mod OpenersFacts
pub mod OpenersLemmas
pub mod SkipStepOpeners
pub mod DeepestLemmas
pub mod OpenDocumentLemmas
pub mod DocumentWalk
pub mod DocumentSteps
pub mod DocumentVariants
pub mod DocumentFrames
pub mod DocumentScalars
pub mod DocumentReads
pub mod TreeDocuments
pub mod HeldNumbers
pub mod GrammarReads
pub mod NumberRuns
pub mod IntegerReads
pub mod PlainIntegers
pub mod NumberSorts
pub mod NumberTexts
pub mod InstantPlaces
pub mod WideSlices
