pub mod Codes
pub mod Version
pub mod AsCoded
