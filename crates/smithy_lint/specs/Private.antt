-- Words that private clauses cite.
pub mod Bodies
pub mod Walks
pub mod Verdicts
pub mod JsonPlaces
pub mod Opening
pub mod CborEnds
pub mod CborVerdicts
pub mod CborBodies
