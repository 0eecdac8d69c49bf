-- `biomass::tariff::times` meets its contract: a constant is below 2^31 in size, so the product is far from the ends of 64 bits.
use Rattle.std.proofs.Common.{◌≡◌, ◌*◌, ◌^◌, ◌≤◌, ℕ, ℤ, pos, ◌*ℤ◌, w32, w64, to_z, sym, subst, FitsSigned}
use Rattle.biomass.proofs.Small.{Small, local, local32, fits, kept, times, word, natural}
use Rattle.biomass.proofs.tariff.times.Goals as goal

wide : {c f : ℤ} → FitsSigned w32 c → f ≡ local32 c → Small (local f) c (2 ^ 31)
wide {c} small is = subst (λ (y : ℤ). Small (local y) c (2 ^ 31)) (sym is) (kept (word small) tt)

product : {c f : ℤ} {n : ℕ} → FitsSigned w32 c → f ≡ local32 c → n ≤ 60000 → Small (local f *ℤ to_z w64 n) (c *ℤ pos n) (2 ^ 31 * 60000)
product small is few = times (wide small is) (natural 60000 few tt)

pub overflow_mul-result : goal.overflow_mul-result
overflow_mul-result c = fits (product c.ranges.constant c.from.ensures c.requires) tt

pub returns : goal.returns
returns c = let p = kept (product c.ranges.constant c.from.ensures c.requires) tt in (p.is, rw p.is p.size)
