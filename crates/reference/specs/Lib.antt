pub mod PlainEntries
pub mod PlainWrites
pub mod PlainState
pub mod Plain
pub mod Execution
pub mod SequentialSessions
pub mod SequentialReplays
