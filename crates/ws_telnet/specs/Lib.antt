pub mod Machine
pub mod Streams
pub mod Token
pub mod TokenLaws
pub mod Words
