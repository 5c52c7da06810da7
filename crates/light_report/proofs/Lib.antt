pub mod Reported
pub mod TreeBytes
pub mod WrittenLaws
