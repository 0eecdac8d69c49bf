-- What is proved of the definitions, each law once, for this crate's proofs and for the layer above.
-- The layer above uses:
--     Exact: row_not_under, row_not_over      the exact row lies from its low to its high, whatever fractions are given; of a tree and its parts too
--     Exact: low_not_under, high_not_over     the same of each end by itself, with its own number of trees
--     Exact: row_den, tree_den                the exact row's denominator is above 0
--     Exact: tree_ordered                     the exact tree with fractions not above the powers is not above the one with fractions not below them
--     Power: w_not_above, next_w_not_below    and there are such fractions: w units of 10^-5 and w + 1 of them; of y too
--     Tree: row_bounds, tree_bounds           how far apart the ends are, and how great they can be; the parts' are stem_bounded, crown_bounded, root_bounded
--     Mean: mean_gives, mean_is, mean_only    a mean that is given is step 2's d, the only one, and in d's range
--     Mean: mean_between_classes              and from the least class of the trees to the greatest
--     Tariff: single_tariff_range, line_tariff_range      a tariff that is given is 1 to 50
--     Trees: none_lost, none_made             with plots within the net area no tree is lost in step 3, and of none none are made; with greater ones some can be (`lost`)
--     Answers                                 operands in their ranges are answered, and with what
--     Declines                                a figure is declined with 6 alone, and a single tariff with 6 or 13
--     Declines: unless_declines, then_declines    and what is made of checks and of other reports, with their numbers alone
--     SameChecks                              two reports with the same checks are the same where what follows the checks is
--     Fraction                                sums, shares and the order of fractions
--     Project: none_of_equal, project_gap, project_not_over   what demand 3 says of the project's two figures, clause by clause
--     SmallTrees: small_not_under, small_not_over, small_bounds   the exact biomass of small trees lies from their low to their high, which are 1 mg apart at most
--     SquareRoot: root_and_square, root_and_square_only, greatest_root_lem    a number is from its root's square on and below the next, and so of no other root
--     Unit: square_scale_is, area_scale_is    the numbers that steps 2 and 4 name are those of the unit of d
--     Marked: marked_hold, appendix6_means    document 01's marked lines (a) to (i), and the two means for which document 02 asks

-- numbers: div; differences of naturals
pub mod Whole
pub mod Signed
-- reports: from the code's tests to a report, a report that gives a figure taken apart, and two with the same checks
pub mod Report
pub mod Gives
pub mod SameChecks
-- the unit of d
pub mod Unit
-- the steps
pub mod Tariff
pub mod Mean
pub mod Trees
pub mod Ends
pub mod Power
pub mod Volume
pub mod Stem
pub mod Crown
-- the square root (document 02, Q-3)
pub mod SquareRoot
pub mod Root
pub mod Tree
pub mod Answers
pub mod Declines
-- the exact value
pub mod Fraction
pub mod StemExact
pub mod Exact
pub mod Project
-- small trees (document 02, Q-1)
pub mod SmallTrees
-- document 01's marked lines
pub mod Marked
