pub mod JsonKeys
pub mod JsonSteps
pub mod CborSteps
