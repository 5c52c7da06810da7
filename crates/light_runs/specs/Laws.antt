pub mod RunLaws
pub mod FromTo
pub mod DownLaws
pub mod UpLaws
pub mod AcceptedWalks
pub mod WholeTray
pub mod AcceptedRuns
