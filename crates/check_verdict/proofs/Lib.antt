pub mod Tests
pub mod Reach
pub mod Closure
pub mod ItemsDecided
pub mod EntriesDecided
pub mod LookaheadsDecided
pub mod CellsDecided
pub mod VerdictLaws
