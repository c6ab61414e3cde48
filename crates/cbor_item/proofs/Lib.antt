mod StandardFacts
mod NotWellFormed
pub mod FirstByte
pub mod HeadLemmas
pub mod ChunkLemmas
pub mod Passing
pub mod Cutting
pub mod Ending
pub mod OneItem
pub mod SkipLemmas
pub mod SkipSteps
pub mod JoinLemmas
pub mod StringLemmas
