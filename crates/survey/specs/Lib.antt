-- The law of this crate, in the order of document 01: how far a book reads, what applying a command to a survey does and may decline, and what totalling a book
-- into a sheet does, with demand 3 and the trees that a book records. Each definition stands under the sentence that it states. Below it are those of what a
-- command declines (rules/specs), of a command's bytes (codec/specs), of one line and its row (line/specs), and of the figures (biomass/specs). How to read
-- these files is said in biomass/specs/Lib.antt.
-- books
pub mod Reader
-- surveys
pub mod Survey
pub mod AsWritten
pub mod Closings
-- what the code does of any survey, and what holds of those that a book reaches
pub mod Apply
pub mod Changed
pub mod Valid
-- whole books: totalling, demand 3, and the trees that a book records
pub mod Playing
pub mod Sheet
pub mod Total
pub mod Bounds
pub mod Demand3
pub mod Recorded
-- what totalling promises
pub mod Promise
-- document 01's listing, and its marked lines
pub mod Listing
pub mod Marked
