pub mod Words
pub mod Texts
pub mod NewWords
pub mod WordLaws
pub mod Laws
