pub mod Limits
pub mod Part
pub mod Ranges
pub mod Rules
