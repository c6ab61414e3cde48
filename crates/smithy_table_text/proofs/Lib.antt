-- what the proofs of functions cite
mod Sameness
mod Refused
