pub mod Rowed
pub mod Filed
