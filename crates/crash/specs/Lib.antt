pub mod Table
pub mod Reference
pub mod Slots
pub mod Steps
pub mod Cut
