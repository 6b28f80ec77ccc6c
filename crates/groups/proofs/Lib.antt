pub mod Behind
pub mod Groups
pub mod Walk
pub mod Steps
pub mod Examples
