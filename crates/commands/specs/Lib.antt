-- The words in which the program `commands` prints a command.
pub mod Words
