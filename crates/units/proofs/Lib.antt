pub mod Laws
pub mod Checked
pub mod Powers
pub mod Sound
pub mod Examples
