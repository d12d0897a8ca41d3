pub mod Printed
pub mod Exits
