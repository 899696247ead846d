pub mod DriverBehaviours
pub mod Drivings
