pub mod FileTable
pub mod MemFiles
pub mod OsFiles
