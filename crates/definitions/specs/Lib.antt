pub mod Cells
pub mod Answers
pub mod Phases
pub mod Damage
pub mod Lines
pub mod Calls
pub mod Promises
