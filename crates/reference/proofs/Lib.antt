pub mod PlainLemmas
pub mod PlainSteps
pub mod MessageLists
pub mod Histories
pub mod Serving
pub mod Running
