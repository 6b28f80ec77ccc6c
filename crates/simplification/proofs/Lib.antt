pub mod Marked
pub mod Stepping
pub mod Sounding
pub mod Turns
pub mod Agreed
pub mod NeverUnits
pub mod Kept
