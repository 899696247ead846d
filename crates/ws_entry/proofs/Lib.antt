pub mod Cells
pub mod FollowedKeys
pub mod NoRules
pub mod Pressings
