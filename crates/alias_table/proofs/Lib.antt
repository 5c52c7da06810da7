pub mod WeightLaws
pub mod StackLaws
pub mod LoopLaws
pub mod TableLaws
