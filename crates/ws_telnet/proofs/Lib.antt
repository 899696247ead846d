pub mod DoubledFronts
pub mod Doubling
pub mod LastRecords
pub mod OneToken
pub mod Streams
pub mod TokenLists
pub mod Unfinished
