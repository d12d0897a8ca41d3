pub mod Classes
pub mod Requires
pub mod Exits
pub mod OneClass
