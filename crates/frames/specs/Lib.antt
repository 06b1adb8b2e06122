pub mod Lines
pub mod LineLaws
pub mod Frames
pub mod FrameLaws
pub mod AnswerLines
pub mod AnswerLaws
