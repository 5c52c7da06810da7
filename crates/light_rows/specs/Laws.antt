pub mod RecordPlaces
pub mod RecordLaws
pub mod TreeLaws
