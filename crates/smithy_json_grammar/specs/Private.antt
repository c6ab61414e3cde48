pub mod Literal
pub mod Chars
pub mod Numeral
pub mod AllowedNumeral
pub mod Unescaping
