pub mod NamesLemmas
pub mod ReportLemmas
