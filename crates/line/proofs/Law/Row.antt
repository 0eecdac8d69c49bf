-- A row's bytes: 25 of them, from which the row is read back as it was.
use Rattle.std.specs.Prelude.{ℕ, ◌+◌, ◌≤◌, ◌<◌, ◌≡◌, refl, List, ◌++◌, length}
use Rattle.std.proofs.Common.{le_refl, arith, ◌∙◌, sym, ap}
use Rattle.biomass.specs.Ends.{between}
use Rattle.codec.specs.Bytes.{byte, number_at, bytes}
use Rattle.line.specs.Row.{row_length, row_bytes, row_from}
use Rattle.codec.proofs.Law.Bytes.{Stands, before, stands_at, stands_first, stands_second, byte_alone, number_of_bytes, byte_past_end, number_past_end}
use Rattle.line.specs.declared.row.Row.{Row}

pub length_row : (r : Row) → length (row_bytes r) ≡ row_length
unfolding row_bytes
length_row r = refl

-- the row's figures fit their bytes
pub record RowFits (r : Row) : Type 0 where
  pub stratum : r.stratum < 256
  pub species : r.species < 256
  pub tariff : r.tariff < 256
  pub d : r.d < 65536
  pub trees : r.trees < 4294967296
  pub low : r.biomass.low.0 < 18446744073709551616
  pub high : r.biomass.high.0 < 18446744073709551616

-- such a row is read back from where its bytes stand
pub row_of_bytes : (r : Row) (s : List ℕ) (at : ℕ) → RowFits r → Stands (row_bytes r) s at → row_from s at ≡ r
unfolding row_bytes row_from
row_of_bytes r s at f (before e₁ (before e₂ (before e₃ h))) =
    let b₂ = bytes 2 r.d in
    let b₄ = bytes 4 r.trees in
    let b₈ = bytes 8 r.biomass.low.0 in
    let b₈' = bytes 8 r.biomass.high.0 in
    let three = stands_first (b₂ ++ b₄ ++ b₈) b₈' h in
    let two = stands_first (b₂ ++ b₄) b₈ three in
    let stratum : byte s at ≡ r.stratum = e₁ ∙ byte_alone r.stratum f.stratum in
    let species : byte s (at + 1) ≡ r.species = e₂ ∙ byte_alone r.species f.species in
    let tariff : byte s (at + 2) ≡ r.tariff = ap (byte s) (omega arith) ∙ e₃ ∙ byte_alone r.tariff f.tariff in
    let d : number_at 2 s (at + 3) ≡ r.d = number_of_bytes 2 r.d f.d (stands_at (stands_first b₂ b₄ two) (omega arith)) in
    let trees : number_at 4 s (at + 5) ≡ r.trees = number_of_bytes 4 r.trees f.trees (stands_at (stands_second b₂ b₄ two) (omega arith)) in
    let low : number_at 8 s (at + 9) ≡ r.biomass.low.0 =
    number_of_bytes 8 r.biomass.low.0 f.low (stands_at (stands_second (b₂ ++ b₄) b₈ three) (omega arith)) in
    let high : number_at 8 s (at + 17) ≡ r.biomass.high.0 =
    number_of_bytes 8 r.biomass.high.0 f.high (stands_at (stands_second (b₂ ++ b₄ ++ b₈) b₈' h) (omega arith)) in
    rw (stratum, species, tariff, d, trees, low, high)

-- past the end every figure is 0
no_row : (s : List ℕ) (at : ℕ) → length s ≤ at →
    row_from s at ≡ record { stratum = 0; species = 0; tariff = 0; d = 0; trees = 0; biomass = between 0 0 }
unfolding row_from
no_row s at past =
    rw (
      ← byte_past_end s at past,
      ← byte_past_end s (at + 1) (omega arith),
      ← byte_past_end s (at + 2) (omega arith),
      ← number_past_end 2 s (at + 3) (omega arith),
      ← number_past_end 4 s (at + 5) (omega arith),
      ← number_past_end 8 s (at + 9) (omega arith),
      ← number_past_end 8 s (at + 17) (omega arith),
    )

pub row_past_end : (s : List ℕ) (at : ℕ) → length s ≤ at → row_from s (length s) ≡ row_from s at
row_past_end s at past = no_row s (length s) (le_refl (length s)) ∙ sym (no_row s at past)
