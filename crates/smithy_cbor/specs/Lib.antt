-- To be believed, in this order.
pub mod Scalar
pub mod Written
pub mod ReadBack
-- For contracts of the `Decoder`.
pub mod DecoderView
pub mod Kind
pub mod Reading
-- For private clauses.
pub mod Private
