pub mod Blocks
pub mod Closing
pub mod Laws
pub mod Moves
pub mod Numbers
pub mod Rule
pub mod Running
pub mod Seen
