pub mod Begun
pub mod Bodies
mod BodiesRead
mod TakenLemmas
mod BodiesWritten
mod Unfits
mod ValuesPass
mod Children
pub mod Mapped
mod PoolBodies
mod DepthFacts
mod WideBodies
pub mod Spelled
pub mod Transcodings
-- laws over all inputs: equal bodies, and how many values an input spells
pub mod Laws
pub mod Counting
