pub mod ReportLaws
pub mod TreeLaws
