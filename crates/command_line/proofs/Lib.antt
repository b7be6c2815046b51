pub mod WordLemmas
pub mod SplitLemmas
