pub mod Events
pub mod Errors
pub mod Holds
pub mod Stores
pub mod Loads
pub mod Storing
