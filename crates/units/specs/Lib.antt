pub mod Prefixes
pub mod Lists
