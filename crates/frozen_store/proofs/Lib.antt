pub mod Walking
pub mod Counted
pub mod Facts
pub mod Binding
pub mod Readings
pub mod Sorting
pub mod Listings
pub mod Samples
