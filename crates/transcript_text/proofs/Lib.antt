pub mod LineFeeds
pub mod OneLine
