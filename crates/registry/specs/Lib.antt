pub mod Registry
pub mod Calls
pub mod Held
