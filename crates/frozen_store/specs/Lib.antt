pub mod Seen
pub mod Bound
pub mod Gathers
pub mod Tallies
pub mod Reads
pub mod Lists
