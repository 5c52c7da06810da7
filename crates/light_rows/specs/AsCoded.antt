pub mod RecordRow
pub mod NodeRow
pub mod BlockRow
