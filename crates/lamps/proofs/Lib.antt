pub mod BlockLoop
pub mod BuildLaws
pub mod LampBoundsLaws
pub mod WalkLaws
