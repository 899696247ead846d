pub mod AnyReached
pub mod AnyLines
pub mod AnyOptions
pub mod AnyEndState
pub mod AnyText
