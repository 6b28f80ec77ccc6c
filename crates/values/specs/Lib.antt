pub mod Quantities
pub mod Calls
