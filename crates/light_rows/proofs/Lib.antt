pub mod NodePlaces
