pub mod Texts
pub mod Chains
pub mod Hashes
pub mod Filed
pub mod Distinct
pub mod OrderedRows
pub mod NameTables
