pub mod ByPhase
