pub mod LampFits
pub mod ListLaws
