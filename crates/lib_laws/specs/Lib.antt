pub mod Laws
pub mod NameLaws
