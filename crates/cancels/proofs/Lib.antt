pub mod Both
pub mod Calls
pub mod Unread
pub mod Rowwise
pub mod Nothing
