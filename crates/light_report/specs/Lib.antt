pub mod Lines
pub mod Report
pub mod Laws
pub mod AsCoded
