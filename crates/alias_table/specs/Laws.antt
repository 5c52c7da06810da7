pub mod GameLaws
pub mod AliasLaws
