pub mod Conversion
pub mod Fractional
pub mod Held
