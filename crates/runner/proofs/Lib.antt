pub mod LoggerLemmas
pub mod WorldLemmas
pub mod ScriptsLemmas
pub mod RunLemmas
