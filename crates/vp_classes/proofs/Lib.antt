pub mod Queueing
pub mod Setting
