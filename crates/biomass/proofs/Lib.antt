-- What is proved of the definitions of specs/.
pub mod Law
-- Laws that the proofs of several routines share.
pub mod Small
pub mod Fits
