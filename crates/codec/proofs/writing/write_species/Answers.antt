-- `codec::writing::write_species` meets its contract: the bytes that it stores are the command's byte, its four operands of one byte, and the bytes of
-- the four constants.
use Rattle.std.proofs.Common.{◌≡◌, ◌∙◌, ap, ℕ, ℤ, ◌^◌, ◌<◌, List, [], ◌∷◌, get_or, arith, w32, of_z, to_z}
use Rattle.std.proofs.lemmas.Int.{to_z-of_z}
use Rattle.std.specs.Int.Signed.{mag}
use Rattle.codec.specs.Bytes.{bytes, unsigned, store}
use Rattle.codec.specs.Command.{encode}
use Rattle.codec.specs.declared.command.Species as Declared
use Rattle.codec.specs.declared.command.Command.TheVariants.{Species}
use Rattle.codec.proofs.writing.write_species.Goals as goal

abbrev constant : ℤ → List ℕ
constant z = bytes 4 (unsigned z)

-- a constant that is taken from its field is as it was
as_given : (z : ℤ) {l : List ℕ} → mag z < 2 ^ 31 → l ≡ constant (to_z w32 (of_z w32 z)) → l ≡ constant z
as_given z small is = is ∙ ap constant (to_z-of_z w32 z (record { sfits = small }))

encoded : (id : ℕ) (s : Declared.Species) {k l m n : List ℕ} → k ≡ constant s.constants.c1 → l ≡ constant s.constants.c2
    → m ≡ constant s.constants.c3 → n ≡ constant s.constants.c4
    → (1 ∷ id ∷ s.crown ∷ s.root ∷ s.gravity
    ∷ get_or k 0 0 ∷ get_or k 1 0 ∷ get_or k 2 0 ∷ get_or k 3 0 ∷ get_or l 0 0 ∷ get_or l 1 0 ∷ get_or l 2 0 ∷ get_or l 3 0
    ∷ get_or m 0 0 ∷ get_or m 1 0 ∷ get_or m 2 0 ∷ get_or m 3 0 ∷ get_or n 0 0 ∷ get_or n 1 0 ∷ get_or n 2 0 ∷ get_or n 3 0 ∷ [])
    ≡ encode (Species id s)
encoded id s e₁ e₂ e₃ e₄ = rw (e₁, e₂, e₃, e₄)

pub returns-clause-stored : goal.returns-clause-stored
returns-clause-stored c =
    let s = c.args.s in
    let x = s.constants in
    let first = c.byte-first.ensures in
    c.put.ensures.stored ∙ rw first (
    ap (store c.args.buffer.now c.args.at)
    (encoded c.args.id s (as_given x.c1 (omega arith) c.constant.ensures) (as_given x.c2 (omega arith) c.constant-2.ensures)
    (as_given x.c3 (omega arith) c.constant-3.ensures) (as_given x.c4 (omega arith) c.constant-4.ensures))
    )
