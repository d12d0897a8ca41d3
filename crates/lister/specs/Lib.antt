pub mod Printed
pub mod Requires
pub mod Exits
