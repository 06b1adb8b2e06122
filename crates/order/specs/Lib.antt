pub mod Theorems
pub mod LastMake
pub mod WorkedRuns
pub mod WorkedTimes
pub mod HelpedRun
pub mod LostRun
pub mod SharedRun
pub mod AbandonedRun
