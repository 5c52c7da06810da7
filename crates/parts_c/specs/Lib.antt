pub mod LibraryFunctions
pub mod PartCodes
