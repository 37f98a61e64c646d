pub mod Decimal
pub mod Hexadecimal
pub mod Puts
pub mod Lines
pub mod Samples
pub mod Parts
pub mod Making
