pub mod ShortAnswer
