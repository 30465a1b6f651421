pub mod Pieces
pub mod PieceLaws
pub mod TreeLaws
pub mod PieceNets
pub mod Walks
pub mod CutNets
