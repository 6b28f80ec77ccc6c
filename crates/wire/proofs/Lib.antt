pub mod Digits
pub mod Runs
pub mod Stored
pub mod Form
pub mod Round
pub mod Back
pub mod Unread
pub mod Alike
