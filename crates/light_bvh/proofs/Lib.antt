pub mod BuildLaws
pub mod LateLaws
pub mod RowTrays
pub mod RowsLaws
pub mod SubtreeLaws
pub mod TableLaws
