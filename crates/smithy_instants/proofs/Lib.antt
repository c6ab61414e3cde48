pub mod OnLiterals
pub mod PowerLemmas
pub mod CalendarLemmas
pub mod EpochLemmas
pub mod FractionLemmas
pub mod LayoutLemmas
pub mod WrittenFractions
mod StandardFacts
pub mod FractionTexts
pub mod DateRoundTrip
pub mod EpochRoundTrip
pub mod HttpRoundTrip
pub mod EpochTextForm
pub mod ReadBack
pub mod DateFrontLemmas
pub mod DelimiterLemmas
