pub mod CallsMade
pub mod ReadOnly
pub mod Stood
pub mod Turned
pub mod Ordered
pub mod LinesRun
pub mod Rendered
pub mod Counted
