pub mod Images
pub mod Steps
pub mod OneBlock
pub mod Writes
pub mod Closings
pub mod Regions
