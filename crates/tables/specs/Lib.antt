pub mod Lists
pub mod Scale
pub mod Rows
pub mod Order
pub mod Rules
pub mod Held
