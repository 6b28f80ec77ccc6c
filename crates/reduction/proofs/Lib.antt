pub mod Resolved
pub mod Adding
pub mod Compared
pub mod Handed
pub mod Reducing
pub mod Fitting
pub mod Widened
pub mod Examples
