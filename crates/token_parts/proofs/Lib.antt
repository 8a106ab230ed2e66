pub mod KeywordLemmas
