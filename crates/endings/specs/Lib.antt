pub mod Stepped
pub mod Laws
pub mod Ended
