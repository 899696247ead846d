pub mod Attachings
pub mod FirstEvents
pub mod PlayRuns
pub mod PlaySteps
pub mod Plays
