pub mod Canonical
pub mod Equality
pub mod Held
