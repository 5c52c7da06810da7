pub mod Weighing
pub mod Views
