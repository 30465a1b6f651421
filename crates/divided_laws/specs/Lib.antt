pub mod DividedTrees
pub mod DividedProblems
