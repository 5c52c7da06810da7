pub mod Stretches
pub mod Tables
