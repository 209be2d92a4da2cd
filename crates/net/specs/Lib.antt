pub mod Listening
pub mod Probes
pub mod Seen
pub mod Shown
pub mod Sockets
pub mod Traces
pub mod Ties
