pub mod AnySteps
pub mod AnyWords
