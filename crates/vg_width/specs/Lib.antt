pub mod Lines
pub mod Texts
pub mod Taking
pub mod Room
pub mod Nets
pub mod WideBests
