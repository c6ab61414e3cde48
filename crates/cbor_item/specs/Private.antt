-- Words that private clauses cite.
pub mod Chunk
pub mod Skip
pub mod Joined
pub mod Start
