pub mod Checks
pub mod Given
pub mod Ends
pub mod Ready
