-- The lines that the program `sheet` prints.
pub mod Lines
