-- Lemmas on tables, values and folds, from which each wire proves its laws. They stand here and not among
-- the proofs, since the laws of a wire are part of its specs, which can name no proof of their own crate.
pub mod Options
pub mod Kinds
pub mod ElementFolds
pub mod Entries
pub mod Variants
pub mod Ascending
pub mod AscendingKeys
pub mod Fitting
