pub mod ScriptedLines
pub mod SessionPrinted
pub mod Turning
