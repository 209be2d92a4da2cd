pub mod Listening
pub mod Runs
pub mod Statuses
