pub mod Errors
pub mod Tree
pub mod FaultIn
pub mod Bringing
pub mod Open
pub mod Order
