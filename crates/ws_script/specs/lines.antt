pub mod ConnectLines
pub mod LiveScript
pub mod ServeLines
pub mod Stroking
pub mod WireLines
