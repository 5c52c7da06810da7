pub mod PackedParts
pub mod PackedRead
