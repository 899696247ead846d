pub mod ExtendedKeyNames
pub mod KeyNames
pub mod KeyWords
pub mod Script
pub mod ScriptFaults
