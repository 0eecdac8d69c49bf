-- Two of the wrong programs that document 01 would see rejected: "a survey that swallows commands unchanged", and "32 lines" or "over the limit"
-- told of a survey below it. What each would hand back is not what the promise of applying a command says: in general, and at one place each.
use Rattle.std.specs.Prelude.{ℕ, ◌+◌, ◌≤◌, ◌<◌, ◌≡◌, refl, List, Option, None, Some, is_some, unwrap_or, option_map, IsSomeAnd}
use Rattle.std.proofs.Common.{arith, ◌∙◌, sym, ap, subst, true≢false, get_or-set_same, lit≤, lit<}
use Rattle.biomass.specs.Report.{Report, refused, gives, After, leaves}
use Rattle.biomass.specs.Limits.{most_measured, most_heights}
use Rattle.line.specs.Line.{new_line, with_trees, factor_at}
use Rattle.survey.specs.Survey.{fresh, species_at, with_species, with_line, declare, opened, open_line, end}
use Rattle.rules.specs.Checks.{most_lines}
use Rattle.survey.specs.Apply.{apply_measured, apply}
use Rattle.line.specs.AnyLine.{add_trees}
use Rattle.survey.specs.Valid.{Valid}
use Rattle.line.specs.declared.line.Line.{Line}
use Rattle.survey.specs.Listing.{listed, species3, line1, four_trees}
use Rattle.survey.specs.Closings.{Closing}
use Rattle.survey.proofs.Law.Checks.{none_is_some, some_is}
use Rattle.survey.proofs.Law.Effect.{Effect, a_species, a_factor, the_line, a_row, effect}
use Rattle.survey.proofs.Law.Limit.{AtLimit, limit_told}
use Rattle.codec.specs.declared.command.Command.{Command}
use Rattle.survey.specs.declared.survey.Survey.{Survey}

-- ---- in general

-- what a command changes was not so before
effect_changes : {c : Command} {s t : Survey} {closes : List Closing} → Valid s → Effect c s t closes → t ≡ s → ⊥
effect_changes {s} v (a_species {id} {x} g treeless) same =
    let is : species_at s id ≡ Some x =
    ap (λ (y : Survey). species_at y id) (sym same) ∙ get_or-set_same s.species id (Some x) None (omega (arith, v.ids)) in
    none_is_some (sym g.new ∙ is)
effect_changes {s} v (a_factor {cm} {x} g treeless) same =
    let is : factor_at s.factors cm ≡ Some x =
    ap (λ (y : Survey). factor_at y.factors cm) (sym same) ∙ get_or-set_same s.factors cm (Some x) None (omega (arith, v.cms)) in
    none_is_some (sym g.new ∙ is)
effect_changes v (the_line g) same = g.changed same
effect_changes {s} v (a_row r e treeless) same = let more : s.closed + 1 ≡ s.closed = ap (λ (x : Survey). x.closed) same in omega arith

-- so a command that a valid survey takes changes it
pub taken_changes : (c : Command) (s t : Survey) → Valid s → apply c s ≡ gives t → t ≡ s → ⊥
taken_changes c s t v e = effect_changes v (effect c s t e)

-- and is not swallowed
pub not_swallowed : (c : Command) (s t : Survey) → Valid s → apply c s ≡ gives t → leaves s (apply c s) ≡ record { left = s; refusal = None } → ⊥
not_swallowed c s t v e swallowed =
    taken_changes c s t v e (ap (λ (r : Report Survey). (leaves s r).left) (sym e) ∙ ap (λ (x : After Survey). x.left) swallowed)

-- 11 comes back only at the limit
pub told_at_limit : (c : Command) (s : Survey) → (leaves s (apply c s)).refusal ≡ Some 11 → AtLimit c s
told_at_limit c s = by_cases (apply c s) (limit_told c s)
  where
    by_cases : (r : Report Survey) → (r ≡ refused 11 → AtLimit c s) → (leaves s r).refusal ≡ Some 11 → AtLimit c s
    by_cases (refused n) decision e = decision (ap refused (some_is e))
    by_cases (gives t) decision e = none_is_some e

pub lines_below_limit : (stratum id p q : ℕ) (s u : Survey) → s.closed < most_lines →
    leaves s (apply (Command.Open stratum id p q) s) ≡ record { left = u; refusal = Some 11 } → ⊥
lines_below_limit stratum id p q s u below e =
    let at : most_lines ≤ s.closed = told_at_limit (Command.Open stratum id p q) s (ap (λ (x : After Survey). x.refusal) e) in
    omega arith

-- of a line that is open
open_line_is : {P : Line → Type 0} (o : Option Line) → IsSomeAnd o P → ((l : Line) → o ≡ Some l → P l → ⊥) → ⊥
open_line_is None h k = h
open_line_is (Some l) h k = k l refl h

pub trees_below_limit : (class count : ℕ) (s u : Survey) → ((l : Line) → s.line ≡ Some l → l.tally.n + count ≤ most_measured) →
    leaves s (apply (Command.Measured class count) s) ≡ record { left = u; refusal = Some 11 } → ⊥
trees_below_limit class count s u below e =
    open_line_is s.line (told_at_limit (Command.Measured class count) s (ap (λ (x : After Survey). x.refusal) e)) λ l is_open over.
    let few = below l is_open in
    omega arith

pub heights_below_limit : (cm tenths : ℕ) (s u : Survey) → ((l : Line) → s.line ≡ Some l → l.heights.number < most_heights) →
    leaves s (apply (Command.Height cm tenths) s) ≡ record { left = u; refusal = Some 11 } → ⊥
heights_below_limit cm tenths s u below e =
    open_line_is s.line (told_at_limit (Command.Height cm tenths) s (ap (λ (x : After Survey). x.refusal) e)) λ l is_open at.
    let few = below l is_open in
    omega arith

-- ---- at one place: the commands of the listing, up to its first measured trees, and the end of an empty book

unfoldable pub with_species3 : Survey
unfolding fresh
with_species3 = with_species fresh 3 listed

unfoldable pub with_line1 : Survey
unfolding with_species3
with_line1 = with_line with_species3 (new_line 1 3 listed 6 1)

unfoldable pub with_four_trees : Survey
unfolding with_line1
with_four_trees = with_line with_line1 (with_trees 60 4 (new_line 1 3 listed 6 1))

-- each command is taken, and leaves the next of these surveys
pub species_taken : leaves fresh (apply species3 fresh) ≡ record { left = with_species3; refusal = None }
unfolding fresh declare with_species3
species_taken = refl

pub line_taken : leaves with_species3 (apply line1 with_species3) ≡ record { left = with_line1; refusal = None }
unfolding fresh opened open_line with_species3 with_line1
line_taken = refl

pub trees_taken : leaves with_line1 (apply four_trees with_line1) ≡ record { left = with_four_trees; refusal = None }
unfolding fresh add_trees apply_measured with_species3 with_line1 with_four_trees
trees_taken = refl

-- none is swallowed: a line is open after the one, 4 trees are noted after the other, and an ended book has ended
pub line_not_swallowed : leaves with_species3 (apply line1 with_species3) ≡ record { left = with_species3; refusal = None } → ⊥
unfolding fresh with_species3 with_line1
line_not_swallowed e = true≢false (ap (λ (x : After Survey). is_some x.left.line) (sym line_taken ∙ e))

pub trees_not_swallowed : leaves with_line1 (apply four_trees with_line1) ≡ record { left = with_line1; refusal = None } → ⊥
unfolding fresh with_species3 with_line1 with_four_trees
trees_not_swallowed e = let four : ◌≡◌ {A = ℕ} 4 0 = ap (λ (x : After Survey). unwrap_or (option_map (λ (l : Line). l.tally.n) x.left.line) 0) (sym trees_taken ∙ e) in omega arith

pub end_not_swallowed : leaves fresh (apply Command.End fresh) ≡ record { left = fresh; refusal = None } → ⊥
unfolding fresh end
end_not_swallowed e = true≢false (ap (λ (x : After Survey). x.left.ended) e)

-- and neither the line nor the trees are told 11
pub line_not_over : leaves with_species3 (apply line1 with_species3) ≡ record { left = with_species3; refusal = Some 11 } → ⊥
unfolding fresh with_species3
line_not_over e = lines_below_limit 1 3 6 1 with_species3 with_species3 (lit< tt) e

pub trees_not_over : leaves with_line1 (apply four_trees with_line1) ≡ record { left = with_line1; refusal = Some 11 } → ⊥
unfolding fresh with_species3 with_line1
trees_not_over e =
    trees_below_limit 60 4 with_line1 with_line1 (λ l is. subst (λ (m : Line). m.tally.n + 4 ≤ most_measured) (some_is is) (lit≤ tt)) e
