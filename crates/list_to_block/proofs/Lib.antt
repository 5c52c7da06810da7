pub mod AnswerBytes
pub mod ListToBlockLaws
