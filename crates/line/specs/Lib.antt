-- The law of this crate: what is noted of a line, what that comes to, and the row that it leaves. How to read these files is said in
-- biomass/specs/Lib.antt.
pub mod Line
pub mod Row
-- the exact value of a line
pub mod Exact
-- how great its figures can be
pub mod Bounds
-- what the code does of any line
pub mod AnyLine
