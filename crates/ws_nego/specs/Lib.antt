pub mod Terminal
pub mod Options
pub mod Station
pub mod Host
pub mod Exchange
pub mod Dialogue
