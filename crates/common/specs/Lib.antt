pub mod Common
pub mod Held
