pub mod Bytes
pub mod Spaces
pub mod Values
pub mod Lengths
pub mod RowBytes
pub mod Loops
pub mod Columns
pub mod Entries
