pub mod Plain
pub mod Sessions
