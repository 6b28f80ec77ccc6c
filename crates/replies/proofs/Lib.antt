pub mod Back
pub mod Parts
pub mod Sent
pub mod Headed
