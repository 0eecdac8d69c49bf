-- `line::row::store_figures` meets its contract: the figures of the row, each stored right after the one before it, in its own width.
use Rattle.std.proofs.Common.{◌++◌, arith}
use Rattle.codec.specs.Bytes.{bytes}
use Rattle.codec.proofs.Law.Storing.{fits_stored, next_stored}
use Rattle.line.specs.Row.{row_bytes}
use Rattle.line.proofs.row.store_figures.Goals as goal

-- `one` to `six`: so many figures' bytes, and what storing them leaves
pub returns : goal.returns
unfolding row_bytes
returns c =
    let r = c.args.row in
    let one = bytes 1 r.stratum in
    let two = one ++ bytes 1 r.species in
    let three = two ++ bytes 1 r.tariff in
    let four = three ++ bytes 2 r.d in
    let five = four ++ bytes 4 r.trees in
    let six = five ++ bytes 8 r.biomass.low.0 in
    let first = fits_stored _ _ one (omega arith) (c.store-species.ensures.bytes, c.store-species.ensures.place) in
    let second = next_stored _ _ one (bytes 1 r.species) (omega arith) first (c.store-tariff.ensures.bytes, c.store-tariff.ensures.place) in
    let third = next_stored _ _ two (bytes 1 r.tariff) (omega arith) second (c.store-d.ensures.bytes, c.store-d.ensures.place) in
    let fourth = next_stored _ _ three (bytes 2 r.d) (omega arith) third (c.store-trees.ensures.bytes, c.store-trees.ensures.place) in
    let fifth = next_stored _ _ four (bytes 4 r.trees) (omega arith) fourth (c.store-low.ensures.bytes, c.store-low.ensures.place) in
    let sixth = next_stored _ _ five (bytes 8 r.biomass.low.0) (omega arith) fifth (c.store-high.ensures.bytes, c.store-high.ensures.place) in
    (next_stored _ _ six (bytes 8 r.biomass.high.0) (omega arith) sixth (c.store.ensures.bytes, c.store.ensures.place)).0
