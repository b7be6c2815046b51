pub mod Flaws
pub mod Passes
pub mod Reach
pub mod Roles
pub mod Shown
pub mod Sums
pub mod Sweep
