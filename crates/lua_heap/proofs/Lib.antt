pub mod TextsLemmas
