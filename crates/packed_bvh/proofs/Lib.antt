pub mod PackLaws
pub mod QuantizeCuts
