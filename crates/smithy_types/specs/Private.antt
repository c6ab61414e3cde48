pub mod DocumentRows
