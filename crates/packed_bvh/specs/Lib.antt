pub mod Quantize
pub mod Decoded
pub mod Packed
pub mod AsCoded
pub mod Laws
