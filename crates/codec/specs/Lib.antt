-- The law of this crate: the commands of a book, their bytes, and reading and writing one. Each definition stands under the sentence of document 01 or 02
-- that it states. How to read these files is said in biomass/specs/Lib.antt.
pub mod Refusal
pub mod Bytes
pub mod Command
pub mod Kind
pub mod Reading
pub mod Writing
pub mod RoundTrip
