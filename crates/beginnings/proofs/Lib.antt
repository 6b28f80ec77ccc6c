pub mod Matched
pub mod Between
pub mod Zeros
pub mod OneRow
pub mod Counted
pub mod Later
pub mod Kept
