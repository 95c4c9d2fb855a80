pub mod Listed
pub mod MarkerPieces
