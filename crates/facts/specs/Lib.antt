pub mod Refusals
pub mod Facts
