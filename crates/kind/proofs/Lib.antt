pub mod Zeros
pub mod Meant
