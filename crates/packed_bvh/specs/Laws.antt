pub mod QuantizeLaws
