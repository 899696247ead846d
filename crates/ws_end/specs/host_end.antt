pub mod HostReached
pub mod HostReacting
pub mod HostEndState
