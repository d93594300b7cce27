pub mod Cycles
pub mod Laws
pub mod Queued
pub mod Reached
pub mod Search
pub mod Targets
