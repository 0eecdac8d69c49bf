-- Document 02, Q-2: when two books differ only in the order of a line's commands, and what totalling them answers. How to read these files is said in
-- biomass/specs/Lib.antt.
pub mod Order
