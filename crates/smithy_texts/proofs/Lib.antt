pub mod OnLiterals
pub mod Base64Laws
pub mod NumeralLemmas
pub mod WrittenNumerals
mod StandardFacts
