pub mod Environ
pub mod Names
pub mod Options
pub mod Session
