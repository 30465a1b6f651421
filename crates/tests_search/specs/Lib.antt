pub mod Allowances
