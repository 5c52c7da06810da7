pub mod Walks
pub mod ListParts
pub mod WordSlices
pub mod Fill
