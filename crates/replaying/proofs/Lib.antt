mod Lines
mod ReplayLemmas
