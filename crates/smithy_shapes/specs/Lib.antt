-- to be believed, in this order
pub mod Fits
pub mod Container
pub mod Accepted
-- for contracts
pub mod Limits
pub mod Site
pub mod ScalarTest
pub mod Targets
pub mod Holding
pub mod Declares
-- what the types of the program stand for
pub mod Views
pub mod MembersLeft
-- for the laws of each wire
pub mod Lemmas
-- for private clauses
pub mod Private
