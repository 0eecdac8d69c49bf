-- What stands in the numbers that pass between this library and a program in another language. What the figures, commands and totals are is
-- said by the crates below. How to read these files is said in biomass/specs/Lib.antt.
pub mod Numbers
pub mod Layout
