-- to be believed, in this order
pub mod WireWords
pub mod SmallNumber
pub mod Status
pub mod Checks
pub mod OneInput
pub mod Transcode
pub mod Gen
pub mod Compare
pub mod Lines
pub mod Replay
pub mod Lint
pub mod Form
pub mod Command
pub mod RunAnswer
pub mod System
-- for private clauses
pub mod Private
