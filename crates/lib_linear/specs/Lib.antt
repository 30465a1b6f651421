pub mod Repeaters
pub mod RepeaterSteps
pub mod RepeaterLaws
pub mod Libraries
pub mod Faults
pub mod Laws
