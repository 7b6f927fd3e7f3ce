pub mod PairsLemmas
pub mod BorderLemmas
