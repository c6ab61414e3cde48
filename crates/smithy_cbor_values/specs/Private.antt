-- Words that private clauses cite, and the proofs of the laws.
pub mod LongRuns
pub mod NextInContainer
pub mod ScalarAtPlace
pub mod Skipping
pub mod Slices
pub mod ItemPlaces
pub mod FirstBytes
pub mod Entries
pub mod OpenersAtPlaces
pub mod Fits
pub mod ContainerBytes
pub mod ArrayPlaces
pub mod MapPlaces
pub mod ValueSorts
pub mod Wire
pub mod NodePlaces
