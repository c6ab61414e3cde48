-- to be believed, in this order
pub mod Wires
pub mod Spelling
pub mod Causes
pub mod Transcoding
-- what the refusals of a transcoding tell, and their numbers
pub mod Refusal
pub mod Numbers
-- what reads and writes of a whole body say of their answers
pub mod ReadBody
pub mod WriteBody
-- what can be written in the middle of a body
pub mod Taken
-- for private clauses
pub mod Private
