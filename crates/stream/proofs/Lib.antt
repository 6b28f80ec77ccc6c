pub mod Codes
pub mod Parts
pub mod Frames
pub mod Answering
pub mod Feeding
