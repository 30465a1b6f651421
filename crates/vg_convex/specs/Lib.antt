pub mod Hulls
pub mod HullLaws
pub mod Places
pub mod Answers
pub mod Orders
pub mod Lists
