pub mod Turns
pub mod Cases
pub mod KnownArcs
