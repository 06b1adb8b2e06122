pub mod Exchanges
pub mod Turns
pub mod Sessions
pub mod Runs
