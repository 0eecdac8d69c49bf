-- What the programs share. What leaves the process no contract can say: these say what is printed to a writer that tells what it holds, and when nothing
-- more is.
pub mod Console
