pub mod TrayLaws
