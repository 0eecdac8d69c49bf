-- What is proved of the definitions, each law once, for this crate's proofs and for the layer above.
--     Reader: read_all_encoded, encoded_read_all    the same of whole books: a list's encoding reads back as the list, and a book that reads through is its list's encoding
--     Reader: encode_all_bytes, read_all_fit    the encoding is bytes, and the operands of what is read fit theirs
--     Reader: encode_all_one                    so two lists with the same bytes are the same list
--     Reach: stops_there, reach_encoded       a book reads as far as its first refusal, and the bytes up to there are its commands' encoding
--     Reach: stops_at_end, one_at_end         from a place not past its end it stops at its end with 1 alone, and with 1 nowhere else; `reach_enough`, as in Playing
--     Reach: read_all_reach, reach_of_list    reading it whole answers the same; a list's encoding reads to its end, as the list
--     Sheet: row_stands, rest_stays           the i-th row stands in its own bytes of the sheet, and no byte past the rows changes
--     Sheet: row_reads_back                   a row that is stored is read back as it was
--     Effect: effect                          what a command that is taken changes is a species, a factor, the line or the rows; of trees so many more are noted as it records
--     Valid: fresh_valid, apply_valid         a fresh survey is valid, and every command keeps a survey so; `reached_valid`: so every one that commands reach is
--     Checks: declared_true, past_table       no id above 15 is declared, nor has it a place in the table; `declared_in_table`, `opened_in_table`: no command that names one is taken
--     AsWritten: as_written_lem                   of a valid survey, applying is the papers' text, with no refusal but those that it names
--     AsWritten: row_of_none                  the row of a line with n = 0 and no small trees has no figure above 0
--     Named: only_named, never_other          the refusals of each command are those that the papers name; of any survey, besides only 6 and 11
--     Named: refusal_of_applying              the numbers of applying are 5 to 15, and 17
--     Named: refusal_not_zero, refusal_from_five      and no refusal is taken for acceptance, nor for one of reading or writing
--     Named: line_row_declines                and those of a line's row by themselves
--     Limit: limit_told, close_never          11 is told only at the limit, of any survey; closing tells it of no valid one
--     Named: ended_refuses                    a book that has ended takes no command
--     Named: is_taken, is_refused, is_kept    what is left, with the refusal if there is one, tells what was reported: a refused change leaves all as it was
--     Change: decides                         what is decided of a command, on what it sees of any survey, is what applying it makes of the survey, and has its place there
--     Change: seen_enough, not_ended_seen     what it sees is enough, and where the book has not ended that need not be looked up; `sees_itself`: every survey is seen by its own tables
--     Change: own_applied                     of the rest of a survey, trees of the open line look only at whether the book has ended
--     Stable: species_stay, factors_stay, rows_stay     what is given once never changes
--     Playing: plays_refused, plays_on, plays_end, plays_past_end     how playing goes on from a place; `enough_commands`: how many commands are allowed makes no difference
--     Playing: plays_taken, plays_declined, plays_unread      and from a command that is taken, refused or not read; `plays_applied`, `plays_told`: by what the code answers
--     Playing: measured_step, height_step     a tree is taken of a survey where it is taken of its open line, and refused where it is refused
--     Playing: measured_on, height_on, line_kept     a tree that is noted of an open line is noted of every survey with that line; a refused one leaves the line as it was
--     Playing: play_valid, play_ended         a book is played to a valid survey, which has ended
--     Playing: kept_to_the_end                what every command keeps is kept to the end of the book
--     Playing: end_at_length, one_at_length, place_of_command, place_in_book      a refused book stops at its end with 1 alone, and with any other number at one of its bytes
--     Playing: play_as_written                a book comes to what it comes to by the papers' text alone
--     Playing: play_of_list                   and a book given as its commands plays as they do
--     Playing: play_takes, play_reaches       the commands that a book which is accepted reads as are all taken, and reach the survey that it comes to
--     Closing: closes_to                      closing leaves the row of the open line, which steps 4 to 7 answer
--     Closings: rows_of_commands, rows_are    the rows that a list of commands leaves, and so those of an accepted book, are those of its closings, in their order
--     Closings: closings_of_list              and a list's book has the list's closings
--     Rows: rows_fit, rows_read_back          no figure of an accepted book's rows is cut off in the sheet, which gives the rows back
--     Total: total_applied, sheet_applied     the answer of totalling and the sheet, which are those of the papers' text, are those of `apply`
--     Total: refused_keeps                    a refused book leaves the sheet as it was
--     Total: refusals_of_totalling            and totalling is refused with 1, 2, 3 or 5 to 17
--     Total: place_of_refusal                 16 at 0, 1 at the book's length, and any other number at one of the book's bytes
--     Sums: sums_small, project_gives         the sums of 32 rows, and eleven times them, fit 64 bits
--     Sums: sum_is                            and each is what the library's sum gives
--     Demand3: demand3, demanded              demand 3, of up to 32 closings, and of what every book with every sheet is answered
--     Demand3: trees_are                      "the N of all lines added" that comes back is that of demand 3's lines
--     Demand3: total_den                      and its comparisons with the exact total are comparisons: no denominator is 0
--     Recorded: as_recorded                   no trees estimated is no trees recorded, of what every book with every sheet is answered
--     Promise: kept_promise                   what totalling promises can be kept
--     NotVacuous: some_not_above, some_not_below      demand 3 is not empty: whatever the lines, there are fractions not above and not below the powers,
--     NotVacuous: totals_ordered, low_not_above_high      their totals are in order, and the low of every accepted book is not above its high
--     Listing: listing_totalled, listing_sheet                totalling the listing gives what document 01 prints of it
--     Listing: listing_accepted, listing_lines_lem, listing_rows  it is accepted by the text, with two lines, which give its two rows
--     Marked: marked_lines_hold               document 01's marked lines (a) to (j)
--     WrongPrograms                           document 01's six wrong programs and its low of 0, and that what totalling promises contradicts each
--     SmallTrees: both_totalled, both_between, small_totalled   of books with small trees, beside measured ones and alone, demand 3 says something
--     Areas: whole_area_totalled, nothing_totalled, listing_recorded     and so does what Q-4 lets a user read, of books with trees and of one without
--     Areas: above_by_one_refused, seventeen_first                 plots greater by one are refused with 17, before 9 and 8
--     WholeCm: factor_at_60_refused, factor_at_59_taken, taken_sheet     a mean of 59.96 cm has the factor at 59 cm, and 14 where only the one at 60 is given
--     Witness                                 two of the wrong programs again, at one command, and that what applying promises contradicts them

-- a command's bytes, and books
pub mod Sheet
pub mod Reach
pub mod Reader
-- checks that are passed and failed
pub mod Checks
-- surveys: applying a command is the text; what is changed, and what a command is refused with
pub mod AsWritten
pub mod Closing
pub mod Effect
pub mod Stable
pub mod Valid
pub mod Named
pub mod Limit
pub mod Change
pub mod Witness
-- whole books, played from a fresh survey
pub mod Playing
pub mod Closings
pub mod Total
pub mod Rows
pub mod Sums
pub mod Demand3
pub mod Recorded
pub mod Promise
pub mod NotVacuous
-- document 01's listing, and its wrong programs
pub mod Listing
pub mod Marked
pub mod WrongPrograms
-- books with small trees (document 02, Q-1), of what areas a line may be (Q-4), and with a mean between two tenths (Q-5)
pub mod SmallTrees
pub mod Areas
pub mod WholeCm
