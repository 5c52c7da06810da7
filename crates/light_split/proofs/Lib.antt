pub mod BucketLaws
pub mod LightLaws
pub mod PartitionLaws
pub mod SplitLaws
