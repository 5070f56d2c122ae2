-- The ribbon that an order gives.
pub mod Ribbons
