pub mod FeedLaws
pub mod NumberLaws
