pub mod Connections
pub mod Tables
pub mod Rows
pub mod Laws
pub mod Texts
pub mod ReadAgain
