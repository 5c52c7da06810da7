pub mod Vecmath
pub mod Bounds
pub mod Cones
pub mod Side
pub mod LightBounds
pub mod Importance
pub mod AsCoded
pub mod Laws
