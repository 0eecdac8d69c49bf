-- Document 01's marked lines (a) to (i) hold. The tariffs and the straight lines, (a) to (c), (h) and (i), compute. A mean is the d between whose two odd
-- squares 40000·S lies, and the roots of (f) and (g) come from y.
use Rattle.std.specs.Prelude.{◌≡◌, ◌*◌, refl}
use Rattle.std.proofs.Common.{ap, lit≤, lit<}
use borrow.Fn.Claims.{AllOf}
use Rattle.biomass.specs.Report.{gives}
use Rattle.biomass.specs.Tariff.{single_tariff, line_tariff}
use Rattle.biomass.specs.Mean.{mean}
use Rattle.biomass.specs.Crown.{crown, crown_ends}
use Rattle.biomass.specs.Root.{root, root_ends}
use Rattle.biomass.specs.Marked.{marked}
use Rattle.biomass.proofs.Law.Power.{y_is, greatest_y}
use Rattle.biomass.proofs.Law.Mean.{mean_between}

infixr 4 ◌and◌
◌and◌ : {P Q : Type 0} → P → Q → P × Q
p and q = (p, q)

pub marked_hold : AllOf marked
unfolding single_tariff line_tariff mean root root_ends crown crown_ends
marked_hold =
    refl
    and refl
    and refl
    and ap gives (mean_between 400 19880 705 (lit≤ tt) (lit≤ tt) (lit< tt))
    and ap gives (mean_between 400 19881 705 (lit≤ tt) (lit≤ tt) (lit< tt))
    and ap gives (mean_between 40000 1985280 704 (lit≤ tt) (lit≤ tt) (lit< tt))
    and ap gives (mean_between 40000 1985281 705 (lit≤ tt) (lit≤ tt) (lit< tt))
    and ap gives (mean_between 1 49 700 (lit≤ tt) (lit≤ tt) (lit< tt))
    and (rw (y_is 1000 31622776 (lit≤ tt) (lit< tt)))
    and (rw (y_is 3000 greatest_y (lit≤ tt) (lit< tt)))
    and refl
    and refl
    and refl
    and refl

-- "Appendix 6 of the protocol works with 8.06 and 11.16 cm" (document 02, Q-5): of 89 trees with a mean square of 65, its stratum IX, and of 138 whose squares add
-- up to 17179, which it prints as a mean square of 124.5, its stratum VIII
pub appendix6_means : (mean 89 (89 * 65) ≡ gives 806) × (mean 138 17179 ≡ gives 1116)
unfolding mean
appendix6_means = (
  ap gives (mean_between 89 (89 * 65) 806 (lit≤ tt) (lit≤ tt) (lit< tt)),
  ap gives (mean_between 138 17179 1116 (lit≤ tt) (lit≤ tt) (lit< tt)),
)
