pub mod Ready
pub mod Converting
