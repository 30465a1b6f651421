pub mod Graphs
pub mod Timings
pub mod Laws
pub mod Delays
pub mod Outputs
pub mod Spans
pub mod Steps
pub mod Ends
