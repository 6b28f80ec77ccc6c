pub mod First
pub mod Stopping
pub mod Stopped
pub mod Wholes
pub mod WholeTables
pub mod WholeCalls
