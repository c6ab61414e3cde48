pub mod Ranges
pub mod Numeral
pub mod Decimal
pub mod Base64Text
