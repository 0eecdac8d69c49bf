-- What is proved of the definitions of specs/.
pub mod Law
-- The rule of a table, proved once.
pub mod Table
pub mod Power
