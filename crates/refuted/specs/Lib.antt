pub mod Catalogues
pub mod Wrong
pub mod Tests
pub mod AnyOrder
pub mod Unchanged
pub mod ReadLaws
pub mod Runs
