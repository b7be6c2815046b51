pub mod ImageLemmas
