pub mod Words
pub mod Printing
pub mod Lines
pub mod Moments
pub mod Running
pub mod Runners
pub mod Serving
