pub mod AliasTable
pub mod AsCoded
pub mod Laws
