mod StandardFacts
pub mod HeadLemmas
pub mod NullTypes
pub mod BigEndianLemmas
pub mod TaggedLemmas
pub mod WrittenLemmas
pub mod DecimalLemmas
pub mod ReadBackLemmas
