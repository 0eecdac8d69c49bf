-- What the loop of `biomass::square_root::square_root` keeps: with k bits to settle, the root of x is from `root` on and below root + 2^k.
use Rattle.std.proofs.Common.{◌≡◌, ℕ, ◌+◌, ◌*◌, ◌/◌, ◌^◌, ◌<◌, ◌≤◌}
use Rattle.biomass.proofs.square_root.square_root.Given as goal

-- `past` is twice the bit that is next, of which `area` is the square, or else 1, and `area` is 0
pub record Between (root past x square cross area : ℕ) : Type 0 where
  pub square_is : square ≡ root * root
  pub cross_is : cross ≡ root * past
  pub area_is : area ≡ past * past / 4
  pub not_above : square ≤ x
  pub below : x < (root + past) * (root + past)
  pub fits : root + past ≤ 2 ^ 32

pub record Search (x square cross area : ℕ) : Type 0 where
  pub k : ℕ
  pub root : ℕ
  pub between : Between root (2 ^ k) x square cross area

abbrev pub invariant-loop-area : goal.invariant-loop-area
invariant-loop-area l = Search l.x l.square l.cross l.area

abbrev pub decreases-loop-area : goal.decreases-loop-area
decreases-loop-area l = l.area
