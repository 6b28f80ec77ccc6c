pub mod Words
pub mod Knots
pub mod Examples
