-- What is proved of the definitions of specs/.
pub mod Law
-- A law that the proof of `codec::reading::read` names.
pub mod Place
