pub mod Replies
pub mod Feeding
pub mod FeedingLaws
pub mod PieceLaws
pub mod Pieces
pub mod BeforeMake
