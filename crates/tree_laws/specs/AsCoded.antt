pub mod StandingTree
