pub mod Members
pub mod Nodes
pub mod OrderedNodes
pub mod NodeTables
pub mod Notes
pub mod Names
pub mod Spellings
pub mod NodeReaders
