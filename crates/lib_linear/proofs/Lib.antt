pub mod RepeaterLemmas
pub mod RepeaterLaws
pub mod RepeaterOrder
pub mod RepeaterSteps
pub mod LawLemmas
pub mod CellLemmas
