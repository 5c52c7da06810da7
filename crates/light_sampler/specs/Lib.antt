pub mod Fork
pub mod Walks
pub mod Sampler
pub mod AsCoded
