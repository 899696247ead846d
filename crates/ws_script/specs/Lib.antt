pub mod lines
pub mod cause
pub mod asked
