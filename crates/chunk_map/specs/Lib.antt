pub mod Layouts
pub mod Checkpoints
pub mod Found
pub mod Formatted
pub mod Rewrites
