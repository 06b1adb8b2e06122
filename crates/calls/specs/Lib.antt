pub mod Zeros
pub mod Starts
