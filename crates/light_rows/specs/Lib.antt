pub mod RecordWords
pub mod QueryWords
pub mod Block
pub mod Nodes
pub mod Tree
pub mod AsCoded
pub mod Laws
