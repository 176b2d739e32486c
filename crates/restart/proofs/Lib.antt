pub mod Plans
pub mod Cells
pub mod Chains
pub mod Begun
pub mod Demand
pub mod Guards
pub mod Batches
pub mod Claimed
