pub mod EscapeLemmas
pub mod EscapingLemmas
pub mod TextLemmas
pub mod DecimalLemmas
pub mod QuotedLemmas
pub mod PlaceLemmas
pub mod AppendingLemmas
pub mod DocumentTextLemmas
pub mod DocumentLemmas
mod StandardFacts
