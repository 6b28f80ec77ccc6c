pub mod Shaped
pub mod Merging
pub mod Sharing
pub mod Lessening
pub mod Agreeing
pub mod Resolved
