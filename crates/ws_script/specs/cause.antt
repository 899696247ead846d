pub mod BodyRefusals
pub mod CauseTexts
pub mod Causes
pub mod ToldCauses
pub mod Vocabularies
