pub mod Series
pub mod Trig
pub mod Laws
