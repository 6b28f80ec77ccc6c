pub mod Orders
pub mod Key
pub mod Held
