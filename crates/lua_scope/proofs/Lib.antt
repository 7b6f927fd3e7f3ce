pub mod BranchLemmas
pub mod FlagLemmas
