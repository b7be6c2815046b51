pub mod Keys
pub mod Gets
pub mod Puts
pub mod Brings
