pub mod PassedLines
pub mod PassedWrites
