pub mod Saturated
pub mod WholeLaws
pub mod WordLaws
pub mod RootLaws
