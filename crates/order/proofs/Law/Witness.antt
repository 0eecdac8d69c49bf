-- What is shown of books in another order is not empty: document 01's listing with its height tree first is such a book, and comes to the listing's totals. And of two
-- such books that are refused nothing more is said: they may be refused for different things.
use Rattle.std.specs.Prelude.{ℕ, zero, suc, ◌≤◌, ◌≡◌, refl, List, [], ◌∷◌, ◌++◌, length, replicate}
use Rattle.std.proofs.Common.{arith, ◌∙◌, ap, le-ltb}
use Rattle.biomass.specs.Tariff.{single_tariff}
use Rattle.codec.specs.Command.{Fits}
use Rattle.codec.specs.declared.command.Command.{Command}
use Rattle.codec.specs.declared.command.Command.TheVariants.{Measured, Height, Close, End}
use Rattle.survey.specs.Reader.{encode_all}
use Rattle.survey.specs.Survey.{fresh, declare, opened, open_line, measure, give_height}
use Rattle.survey.specs.AsWritten.{as_written}
use Rattle.survey.specs.Playing.{stopped, play_list_by}
use Rattle.survey.specs.Sheet.{sheet_length}
use Rattle.survey.specs.Total.{Answer, refused_at, totalled, answer_of, total, sheet_after}
use Rattle.survey.specs.Promise.{Promised}
use Rattle.survey.proofs.Law.Promise.{kept_promise}
use Rattle.survey.specs.Listing.{species3, factor101, line1, four_trees, height_tree, line2, listing_commands, listing, listing_totals}
use Rattle.survey.proofs.Law.Reach.{AllFit, none, and_next}
use Rattle.survey.proofs.Law.Playing.{play_of_list}
use Rattle.survey.proofs.Law.Listing.{listing_totalled}
use Rattle.order.specs.Order.{Reordered, exchange, and_then, OtherOrder}
use Rattle.order.proofs.Law.Lines.{reordered_lines}
use Rattle.order.proofs.Law.Order.{books_of_lists, order_is_chance, accepted_both}

-- ---- the listing with its height tree first

abbrev pub height_first : List Command
height_first = species3 ∷ factor101 ∷ line1 ∷ height_tree ∷ four_trees ∷ Close ∷ line2 ∷ Close ∷ End ∷ []

listed_fits : Fits species3
listed_fits = omega arith

-- it is the listing in another order
pub listing_other_order : OtherOrder listing (encode_all height_first)
unfolding listing
listing_other_order = books_of_lists listing_commands height_first listing_fits height_first_fits (reordered_lines one_exchange)
  where
    one_exchange : Reordered listing_commands height_first
    one_exchange = exchange (species3 ∷ factor101 ∷ line1 ∷ []) four_trees height_tree (Close ∷ line2 ∷ Close ∷ End ∷ []) refl refl

    rest_fits : AllFit (Close ∷ line2 ∷ Close ∷ End ∷ [])
    rest_fits = and_next tt (and_next {c = line2} (omega arith, omega arith, omega arith, omega arith) (and_next tt (and_next tt none)))

    begins_fit : {cs : List Command} → AllFit cs → AllFit (species3 ∷ factor101 ∷ line1 ∷ cs)
    begins_fit fits =
        and_next {c = species3} listed_fits
        (and_next {c = factor101} (omega arith, omega arith)
        (and_next {c = line1} (omega arith, omega arith, omega arith, omega arith) fits))

    listing_fits : AllFit listing_commands
    listing_fits = begins_fit (and_next {c = four_trees} (omega arith, omega arith) (and_next {c = height_tree} (omega arith, omega arith) rest_fits))

    height_first_fits : AllFit height_first
    height_first_fits = begins_fit (and_next {c = height_tree} (omega arith, omega arith) (and_next {c = four_trees} (omega arith, omega arith) rest_fits))

-- so totalling it answers what document 01 prints of the listing, and leaves the listing's sheet
pub height_first_totalled : (sheet : List ℕ) → sheet_length ≤ length sheet → (q : Answer) (beside : List ℕ) → Promised (encode_all height_first) sheet q beside
    → (q ≡ totalled listing_totals) × (beside ≡ sheet_after listing sheet)
height_first_totalled sheet room q beside promised =
    accepted_both (order_is_chance listing (encode_all height_first) listing_other_order sheet _ q _ beside (kept_promise listing sheet) promised)
    listing_totals (listing_totalled sheet room)

-- ---- two that are refused

-- 983,025 trees in 15 commands, and as many in one more are above 1,000,000 (11); a height tree of 10 cm and 60.0 m has no tariff up to 50 (13)
abbrev many_trees : Command
many_trees = Measured 60 65535

abbrev too_tall : Command
too_tall = Height 10 600

abbrev nearly_full : List Command → List Command
nearly_full cs = species3 ∷ line1 ∷ replicate 15 many_trees ++ cs

abbrev pub tall_first : List Command
tall_first = nearly_full (height_tree ∷ too_tall ∷ many_trees ∷ Close ∷ End ∷ [])

abbrev pub trees_first : List Command
trees_first = nearly_full (many_trees ∷ height_tree ∷ too_tall ∷ Close ∷ End ∷ [])

nearly_full_fits : {cs : List Command} → AllFit cs → AllFit (nearly_full cs)
nearly_full_fits {cs} fits = and_next {c = species3} listed_fits (and_next {c = line1} (omega arith, omega arith, omega arith, omega arith) (repeated 15))
  where
    repeated : (n : ℕ) → AllFit (replicate n many_trees ++ cs)
    repeated zero = fits
    repeated (suc n) = and_next {c = many_trees} (omega arith, omega arith) (repeated n)

tall_fits : AllFit tall_first
tall_fits =
    nearly_full_fits
    (and_next {c = height_tree} (omega arith, omega arith)
    (and_next {c = too_tall} (omega arith, omega arith) (and_next {c = many_trees} (omega arith, omega arith) (and_next tt (and_next tt none)))))

trees_fit : AllFit trees_first
trees_fit =
    nearly_full_fits
    (and_next {c = many_trees} (omega arith, omega arith)
    (and_next {c = height_tree} (omega arith, omega arith) (and_next {c = too_tall} (omega arith, omega arith) (and_next tt (and_next tt none)))))

pub refused_other_order : OtherOrder (encode_all tall_first) (encode_all trees_first)
refused_other_order =
    books_of_lists tall_first trees_first tall_fits trees_fit
    (reordered_lines (and_then (exchange (nearly_full (height_tree ∷ [])) too_tall many_trees (Close ∷ End ∷ []) refl refl)
    (exchange (nearly_full []) height_tree many_trees (too_tall ∷ Close ∷ End ∷ []) refl refl)))

-- commands that are refused where they are played
played_refused : (cs : List Command) (n at : ℕ) → AllFit cs → play_list_by as_written cs 0 fresh ≡ stopped n at → (sheet : List ℕ) → sheet_length ≤ length sheet
    → total (encode_all cs) sheet ≡ refused_at n at
unfolding total
played_refused cs n at fits e sheet room = rw (le-ltb (length sheet) sheet_length room) (ap answer_of (play_of_list cs fits ∙ e))

-- so both are refused, with different numbers at different places
pub refusals_differ : (sheet : List ℕ) → sheet_length ≤ length sheet
    → (total (encode_all tall_first) sheet ≡ refused_at 13 96) × (total (encode_all trees_first) sheet ≡ refused_at 11 92)
unfolding play_list_by fresh declare opened open_line measure give_height single_tariff
refusals_differ sheet room = (played_refused tall_first 13 96 tall_fits refl sheet room, played_refused trees_first 11 92 trees_fit refl sheet room)
