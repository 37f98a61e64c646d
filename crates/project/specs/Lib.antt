pub mod Project
pub mod Alike
