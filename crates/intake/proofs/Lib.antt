pub mod TableRows
pub mod Calling
