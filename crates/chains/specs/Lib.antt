pub mod Chains
pub mod Requires
pub mod Linking
pub mod Carrying
pub mod Walking
pub mod Exits
