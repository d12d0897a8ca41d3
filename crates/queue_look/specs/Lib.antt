pub mod Look
pub mod Stages
pub mod Laws
pub mod Exits
