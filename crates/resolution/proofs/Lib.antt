pub mod KeyPads
pub mod Before
pub mod Counting
pub mod Resolving
pub mod Gathering
pub mod Keyed
pub mod Ordered
pub mod Viewed
