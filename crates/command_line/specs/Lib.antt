pub mod Words
pub mod OneLine
