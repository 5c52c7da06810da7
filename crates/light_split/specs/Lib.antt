pub mod Lights
pub mod Buckets
pub mod Split
pub mod Partition
pub mod AsCoded
