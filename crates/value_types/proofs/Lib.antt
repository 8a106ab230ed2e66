pub mod PropertyLemmas
