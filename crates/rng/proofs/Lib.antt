pub mod Halves
pub mod Units
pub mod Draws
pub mod Examples
