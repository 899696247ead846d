pub mod BothTraced
pub mod Common
pub mod ExtendedRecords
pub mod ReadSteps
pub mod Tracings
