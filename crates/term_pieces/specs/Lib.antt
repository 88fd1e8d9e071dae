pub mod Products
pub mod ItemForms
pub mod Pieces
pub mod PieceValues
pub mod Tops
pub mod NormalForm
pub mod Quotients
