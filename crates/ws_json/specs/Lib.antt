pub mod JsonStrings
pub mod JsonTexts
pub mod LineStrings
