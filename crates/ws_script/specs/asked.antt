pub mod Addresses
pub mod OpenStreams
pub mod RunFaults
