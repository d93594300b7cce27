pub mod Rows
pub mod Catalogue
pub mod Premises
pub mod Views
