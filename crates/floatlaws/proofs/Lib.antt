pub mod Signed
pub mod Comparison
pub mod Order
pub mod Differences
pub mod Monotone
pub mod Spans
pub mod Shares
