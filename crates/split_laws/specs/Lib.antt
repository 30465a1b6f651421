pub mod StagePieces
pub mod ReadNets
pub mod ReadPieces
pub mod Cuts
