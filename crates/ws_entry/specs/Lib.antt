pub mod EntryDisplays
pub mod EntryLaws
pub mod EntryRules
pub mod Following
