-- to be believed
pub mod ErrorCode
pub mod Headers
pub mod Messages
pub mod Protocols
pub mod Bodies
pub mod ErrorAnswers
