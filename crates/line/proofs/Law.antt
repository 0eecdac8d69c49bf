-- What is proved of the definitions, for this crate's proofs and for the layer above.
--     Row: length_row, row_of_bytes    a row is 25 bytes, from which it is read back as it was
--     Estimate: estimate_not_under, estimate_not_over      the exact value of a line lies from its low to its high, whatever fractions are given
--     Estimate: estimate_bounds        how far apart these are, and how great they can be
--     Estimate: estimate_den           the exact value's denominator is above 0
--     SmallTrees: small_alone_lem         a small-tree command looks at the line's small trees alone, and changes these alone
--     Factor: factor_in_classes, factor_there     the factor is read at a whole cm from the least class of the measured trees to the greatest, and is there where all of
--                                      these are; `classes_tallied`: of any trees
pub mod Row
pub mod Estimate
pub mod SmallTrees
pub mod Factor
