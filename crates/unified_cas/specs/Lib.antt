pub mod Answers
pub mod Upstream
pub mod Reading
pub mod Over
