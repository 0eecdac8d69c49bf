-- A command's byte says what is read: the command of the kind that has the byte.
use Rattle.std.specs.Prelude.{ℕ, ◌≡◌, refl, Bool, true, false, cond, List, [], ◌∷◌, Option, Some, find, nat_eq}
use Rattle.biomass.specs.Report.{Report, refused, ◌then◌}
use Rattle.codec.specs.Kind.{kind_byte, kinds, kind_of, known}
use Rattle.codec.specs.Reading.{command_from}
use Rattle.codec.specs.declared.command.Kind.{Kind}

-- kinds that are tried one after the other, as `command_from` tries all of them
abbrev tried : {A : Type 0} → (Kind → Bool) → (Kind → Report A) → List Kind → Report A
tried test f [] = refused 2
tried test f (k ∷ ks) = cond (test k) (f k) (tried test f ks)

one_more : {A : Type 0} (f : Kind → Report A) (k : Kind) (rest : Option Kind) {others : Report A} (met : Bool)
    → others ≡ (known rest then f) → cond met (f k) others ≡ (known (cond met (Some k) rest) then f)
one_more f k rest true e = refl
one_more f k rest false e = e

tried_found : {A : Type 0} (test : Kind → Bool) (f : Kind → Report A) (ks : List Kind) → tried test f ks ≡ (known (find test ks) then f)
tried_found test f [] = refl
tried_found test f (k ∷ ks) = one_more f k (find test ks) (test k) (tried_found test f ks)

pub command_by_kind : (b : ℕ) (s : List ℕ) (i : ℕ) → command_from b s i ≡ (kind_of b then λ k. command_from (kind_byte k) s i)
unfolding command_from
command_by_kind b s i = tried_found (λ k. nat_eq b (kind_byte k)) (λ k. command_from (kind_byte k) s i) kinds
