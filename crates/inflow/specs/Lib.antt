pub mod Inflow
