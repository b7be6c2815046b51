pub mod Blank
pub mod View
pub mod Calls
