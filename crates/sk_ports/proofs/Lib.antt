pub mod FilesLemmas
pub mod PiecesLemmas
