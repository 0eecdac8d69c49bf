-- What is proved of the definitions of specs/.
pub mod Law
