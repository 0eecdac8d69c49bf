-- `codec::reading::read_species` meets its contract: each of its operands is one of those that the definition has.
use Rattle.std.proofs.Common.{◌≡◌, ◌+◌, ◌^◌, ◌≤◌, ◌<◌, ◌∙◌, ap, ℕ, ℤ, List, length, le-leb, take, drop, get_or, arith, w32, of_z, to_z}
use Rattle.std.proofs.lemmas.Int.{to_z-of_z}
use Rattle.std.proofs.lemmas.Grind.{common_steps}
use Rattle.std.specs.Int.Signed.{mag}
use Rattle.std.proofs.Math.Seq.{get_or-take, get_or-drop}
use Rattle.biomass.specs.Report.{gives}
use Rattle.codec.specs.Bytes.{byte, number_at, signed}
use Rattle.codec.specs.Reading.{species_from}
use Rattle.codec.specs.declared.command.Command.TheVariants.{Species}
use Rattle.codec.proofs.reading.read_species.Goals as goal

-- a byte of those taken from a place on
taken : (s : List ℕ) (i j k : ℕ) {o : List ℕ} → j < 20 → i + j ≡ k → o ≡ take 20 (drop i s) → get_or o j 0 ≡ byte s k
taken s i j k small there is =
    ap (λ (l : List ℕ). get_or l j 0) is ∙ get_or-take 20 (drop i s) j 0 small ∙ get_or-drop i s j 0 ∙ ap (byte s) there

-- a constant, as it stands in its field
in_field : (x : ℤ) {z : ℤ} → mag x < 2 ^ 31 → x ≡ z → to_z w32 (of_z w32 x) ≡ z
in_field x small is = to_z-of_z w32 x (record { sfits = small }) ∙ is

species_read : (s : List ℕ) (i : ℕ) {o : List ℕ} {c₁ c₂ c₃ c₄ : ℤ} → i + 20 ≤ length s → o ≡ take 20 (drop i s)
    → c₁ ≡ signed (number_at 4 s (i + 4)) → c₂ ≡ signed (number_at 4 s (i + 8)) → c₃ ≡ signed (number_at 4 s (i + 12)) → c₄ ≡ signed (number_at 4 s (i + 16))
    → gives (
      Species (get_or o 0 0)
          (record { crown = get_or o 1 0; root = get_or o 2 0; gravity = get_or o 3 0; constants = record { c1 = c₁; c2 = c₂; c3 = c₃; c4 = c₄ } }),
      i + 20,
    ) ≡ species_from s i
unfolding species_from
species_read s i enough is e₁ e₂ e₃ e₄ =
    rw (
      le-leb (i + 20) (length s) enough,
      taken s i 0 i (omega arith) (omega arith) is,
      taken s i 1 (i + 1) (omega arith) (omega arith) is,
      taken s i 2 (i + 2) (omega arith) (omega arith) is,
      taken s i 3 (i + 3) (omega arith) (omega arith) is,
      e₁,
      e₂,
      e₃,
      e₄,
    )

pub returns : goal.returns
returns c =
    species_read c.args.book.now c.args.from {o = c.in_ok-id.field-0.now} (grind (arith, common_steps)) (grind (arith, common_steps))
    (in_field c.signed_four.result (omega arith) c.signed_four.ensures)
    (in_field c.signed_four-2.result (omega arith) c.signed_four-2.ensures)
    (in_field c.signed_four-3.result (omega arith) c.signed_four-3.ensures)
    (in_field c.signed_four-4.result (omega arith) c.signed_four-4.ensures)
