pub mod NameLemmas
pub mod ChainLemmas
pub mod OpeningLemmas
pub mod FileLemmas
pub mod ChainStates
pub mod PruningLemmas
pub mod RemovingLemmas
