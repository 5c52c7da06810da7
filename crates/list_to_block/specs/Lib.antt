pub mod ListToBlock
