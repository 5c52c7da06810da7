pub mod WeightedTree
