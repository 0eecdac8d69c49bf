-- The law of this crate: what a declaration, an opening and the end may decline, by the values that they look at, and what any command changes, by those that it
-- looks at. How to read these files is said in biomass/specs/Lib.antt.
pub mod Checks
pub mod Change
