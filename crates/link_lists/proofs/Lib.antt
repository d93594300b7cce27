pub mod Calls
pub mod Chains
pub mod Filled
pub mod Members
pub mod Seen
pub mod Steps
