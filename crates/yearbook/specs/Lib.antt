pub mod Text
pub mod Asks
