pub mod Sessions
pub mod EndCauses
pub mod SessionLists
pub mod Workers
pub mod Starts
pub mod Reports
