-- What is proved of the definitions.
--     Order: order_is_chance                  books that differ only in the order of a line's commands are accepted together, with the same totals and sheet
--     Order: accepted_both, either_way        what that says of one of two answers, whichever it is
--     Order: books_of_lists                   the books of two lists of commands are such where the lists are
--     Exchange: exchanged                     a line's command and its neighbour are taken in either order, to the same survey, or in neither
--     Lines: reordered_lines, lines_reordered     the two ways to say that commands differ only in that order are the same
--     Witness: height_first_totalled          so document 01's listing with its height tree first comes to the listing's totals and sheet
--     Witness: refusals_differ                and two such books that are refused may be so with different numbers at different places
--     Covers: each_kind_moves, past_closing   what the relation holds of: each kind of a line's commands passes the others and the declarations, and none its closing
pub mod Covers
pub mod Part
pub mod Exchange
pub mod Lines
pub mod Order
pub mod Witness
