pub mod WholeNumbers
pub mod WholeParts
