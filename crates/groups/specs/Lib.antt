pub mod Taken
pub mod Numbers
pub mod Held
