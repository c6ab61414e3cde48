-- to be believed, in this order: what a body means, whichever wire carries it
pub mod Node
pub mod Rules
pub mod BigNumbers
pub mod Documents
pub mod Meaning
pub mod Inputs
-- how a wire frames its nodes, and the relations of reading that follow
pub mod Frames
-- what a wire proves of its framing, and the laws of reading that follow
pub mod Wire
pub mod Laws
pub mod Readers
pub mod Entries
-- the node as which a value is written, its bytes, and what a wire proves of them
pub mod Written
pub mod Writes
-- whole numbers in the bits of their kinds
pub mod Narrowing
-- where a reader stands, what it finds there, and which containers a serializer has open
pub mod Walking
pub mod Stepping
pub mod Finding
pub mod OpenContainers
-- what the laws are proved by
pub mod Lemmas
