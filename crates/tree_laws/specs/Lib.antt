pub mod SortingBuild
pub mod TreeWords
pub mod AsCoded
pub mod Laws
