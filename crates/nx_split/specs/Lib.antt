pub mod Piece
pub mod Laws
