pub mod LampList
pub mod LampBounds
pub mod BuildBounds
pub mod AsCoded
