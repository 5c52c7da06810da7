pub mod DemandWords
pub mod Demand3
pub mod AsCoded
pub mod Laws
