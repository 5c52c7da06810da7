pub mod Subtree
pub mod Build
pub mod AsCoded
