pub mod Traced
pub mod Text
pub mod Asks
