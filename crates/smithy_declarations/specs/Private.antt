pub mod Words
pub mod Order
pub mod PlaceTests
pub mod DeclNames
pub mod Tests
