pub mod Hollow
pub mod Errors
pub mod WrongAbandons
pub mod All
