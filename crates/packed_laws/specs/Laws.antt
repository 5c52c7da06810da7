pub mod PackedLaws
pub mod OverallBox
pub mod BuiltPacks
pub mod PackedBoxes
pub mod StepsOrder
pub mod PackedNesting
