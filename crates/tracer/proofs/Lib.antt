pub mod Starting
pub mod Turning
pub mod Lining
