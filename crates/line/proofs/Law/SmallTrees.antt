-- A small-tree command looks at its operands and at the line's small trees alone, and changes these alone: whatever measured and height trees the line has, it is
-- answered alike. What is shown of books in another order (document 02, Q-2; order/specs) rests on this.
use Rattle.std.specs.Prelude.{ℕ, ◌≡◌}
use Rattle.biomass.specs.Report.{gives, ◌then◌}
use Rattle.biomass.proofs.Law.SameChecks.{when_then, unless_then}
use Rattle.line.specs.Line.{line_with, add_small}
use Rattle.line.specs.declared.line.Tally.{Tally}
use Rattle.line.specs.declared.line.Heights.{Heights}
use Rattle.line.specs.declared.line.Line.{Line}

pub small_alone_lem : (carbon count : ℕ) (l : Line) (t : Tally) (h : Heights)
    → (add_small carbon count l then λ m. gives (line_with l t h m.small)) ≡ add_small carbon count (line_with l t h l.small)
unfolding add_small
small_alone_lem carbon count l t h = search (when_then, unless_then) depth 8
