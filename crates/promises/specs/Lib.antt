pub mod Table
pub mod Shop
pub mod Demand
pub mod Shipped
pub mod Told
