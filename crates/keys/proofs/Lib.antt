pub mod KeyLaws
pub mod KeySizes
pub mod KeyOrder
pub mod Ray
pub mod Proportional
pub mod Entries
pub mod Examples
