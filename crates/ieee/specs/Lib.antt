pub mod Single
pub mod Choose
pub mod Whole
pub mod Sqrt
pub mod Narrow
pub mod Laws
