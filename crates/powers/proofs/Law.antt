-- What is proved of the definitions, for this crate's proofs and for the layers above.
--     Greatest: whole_root_is, whole_root_not_above, whole_root_below    a whole root is the one between whose power and the next one's the number lies
--     Scaled: whole_root_tested    a root too long to be written out, told by its leading digits
--     Crown: w_is, tabled_is_w    w is what passes that test, and the table has it at every diameter of the curve
pub mod Greatest
pub mod Scaled
pub mod Crown
