pub mod Clamped
pub mod LateLaws
pub mod RootLaws
pub mod PlainView
pub mod BoundsLaws
pub mod WeighingLaws
pub mod DivisorLaws
