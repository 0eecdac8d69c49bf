-- The law of this crate: the diameters that the steps name, the greatest number that passes a test, and step 5's w. How to read these files is
-- said in biomass/specs/Lib.antt.
pub mod Diameter
pub mod Greatest
pub mod Crown
