pub mod Sync
pub mod Stages
pub mod Budget
pub mod Quiet
pub mod Exits
pub mod Keeps
