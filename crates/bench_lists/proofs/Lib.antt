pub mod Lengths
pub mod TurnLaws
pub mod OperationLaws
pub mod BranchLaws
