-- What the relation of books in another order holds of, and what not. It leaves nothing out: each kind of a line's commands passes the others and both kinds of
-- declarations. And it holds of no more than it should: past the closing of its line a command is of that line no more.
use Prim.Native.Nat.{ℕ, zero, suc}
use native.Mathlib.Omega.{arith}
use Rattle.std.specs.Prelude.{◌≡◌, true, List, [], ◌∷◌}
use Rattle.std.proofs.Math.Path.{refl}
use Rattle.codec.specs.declared.command.Species.{Species}
use Rattle.codec.specs.declared.command.Command.{Command}
use Rattle.codec.specs.declared.command.Command.TheVariants.{Factor, Measured, Height, Close, Small}
use Rattle.order.specs.Order.{others, in_stretch, how_many, SameBag, SameLines}

module _ (class count cm tenths carbon many id at factor : ℕ) (x : Species) where
  abbrev one_order : List Command
  one_order = Measured class count ∷ Height cm tenths ∷ Small carbon many ∷ Command.Species id x ∷ Factor at factor ∷ []

  abbrev another_order : List Command
  another_order = Command.Species id x ∷ Factor at factor ∷ Small carbon many ∷ Height cm tenths ∷ Measured class count ∷ []

  by_stretch : (i : ℕ) → SameBag (in_stretch i one_order) (in_stretch i another_order)
  unfolding in_stretch how_many
  by_stretch zero = record { as_many = λ such. omega arith }
  by_stretch (suc i) = record { as_many = λ such. refl }

  pub each_kind_moves : SameLines one_order another_order
  unfolding others
  each_kind_moves = record { same_others = refl; same_stretches = by_stretch }

-- before the closing stands one of the line's commands in the first, and none in the second
pub past_closing : (class count : ℕ) → SameLines (Measured class count ∷ Close ∷ []) (Close ∷ Measured class count ∷ []) → ⊥
unfolding in_stretch how_many
past_closing class count same = let none : ◌≡◌ {A = ℕ} 1 0 = (same.same_stretches 0).as_many (λ c. true) in absurd (omega arith)
