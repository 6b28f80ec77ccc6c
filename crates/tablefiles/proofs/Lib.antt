pub mod Admissions
pub mod Writing
pub mod Reading
pub mod Salvage
pub mod Sized
