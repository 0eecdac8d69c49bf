-- Document 01's marked lines hold: those of single figures (biomass/proofs/Law/Marked.antt), and (j), since the listing's rows stand first in the sheet.
use Rattle.std.proofs.Common.{ap}
use Rattle.std.specs.Prelude.{take}
use borrow.Fn.Claims.{AllOf, all_join}
use Rattle.biomass.specs.Marked.{marked}
use Rattle.biomass.proofs.Law.Marked.{marked_hold}
use Rattle.line.specs.Row.{row_length, row_bytes}
use Rattle.survey.specs.Marked.{marked_book, marked_lines}
use Rattle.survey.proofs.Law.Listing.{listing_sheet}

pub marked_lines_hold : AllOf marked_lines
unfolding row_bytes
marked_lines_hold = all_join marked marked_book marked_hold (λ sheet room. ap (take row_length) (listing_sheet sheet room))
