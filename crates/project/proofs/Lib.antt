pub mod Records
pub mod Counted
pub mod Onto
pub mod Alike
