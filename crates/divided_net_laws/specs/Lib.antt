pub mod DividedNets
