pub mod Values
pub mod Runs
pub mod Knots
pub mod Held
