pub mod Linked
pub mod Links
pub mod Pooled
pub mod Slots
