pub mod Lists
pub mod Nodes
pub mod Places
pub mod Rings
pub mod Web
