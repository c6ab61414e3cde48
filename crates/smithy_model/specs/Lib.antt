-- to be believed, in this order
pub mod Objects
pub mod Model
pub mod Form
pub mod Members
pub mod Kinds
pub mod Shapes
pub mod Prelude
pub mod Mixins
pub mod Reading
pub mod Faults
-- what the types stand for
pub mod Views
pub mod Users
-- words for private functions
pub mod Mixing
pub mod Placing
pub mod Linking
pub mod Among
