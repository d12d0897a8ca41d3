pub mod Trace
pub mod Promise
pub mod View
pub mod Says
pub mod Notes
pub mod Surviving
pub mod Worked
