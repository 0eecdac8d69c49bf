-- The exact value of a part, a tree and a row: "steps 4 to 6 with no 1 added and every div an exact division, save the one that picks f."
use Rattle.std.specs.Prelude.{ℕ, ◌*◌, ◌^◌, ◌≤◌, cond, leb, ℤ, pos, ◌+ℤ◌, ◌-ℤ◌, ◌*ℤ◌}
use Rattle.biomass.specs.Whole.{square}
use Rattle.powers.specs.Diameter.{units_to_cm, crown_limit, root_limit}
use Rattle.biomass.specs.Stem.{area_scale, B}
use Rattle.biomass.specs.Crown as Crown
use Rattle.powers.specs.Crown.{crown_exponent, crown_degree}
use Rattle.biomass.specs.Root as Root
use Rattle.biomass.specs.Fraction.{Fraction, whole, ◌⊕◌, ◌⊖◌, ◌⊗◌, ◌over◌}
use Rattle.biomass.specs.declared.tree.AverageTree.{AverageTree}

-- "A fraction r/t (r at least 0, t at least 1)", given in place of a power
pub record Given : Type 0 where
  pub r : ℕ
  pub t : ℕ
  pub t_at_least_1 : 1 ≤ t

abbrev pub value : Given → Fraction
value g = whole (pos g.r) over g.t

-- ".. is not above the crown power when" "r^10000·100^24767" "≤ t^10000·d^24767, .. not below, with ≥.": "In the exact value 100 stands for 10" (document 02, Q-5)
pub record NotAboveCrown (d : ℕ) (g : Given) : Type 0 where
  pub le : g.r ^ crown_degree * units_to_cm ^ crown_exponent ≤ g.t ^ crown_degree * d ^ crown_exponent

pub record NotBelowCrown (d : ℕ) (g : Given) : Type 0 where
  pub ge : g.t ^ crown_degree * d ^ crown_exponent ≤ g.r ^ crown_degree * units_to_cm ^ crown_exponent

-- ".. nor the root power when" "r²·100^5" "≤ t²·d^5; not below, with ≥."
pub record NotAboveRoot (d : ℕ) (g : Given) : Type 0 where
  pub le : g.r ^ 2 * units_to_cm ^ 5 ≤ g.t ^ 2 * d ^ 5

pub record NotBelowRoot (d : ℕ) (g : Given) : Type 0 where
  pub ge : g.t ^ 2 * d ^ 5 ≤ g.r ^ 2 * units_to_cm ^ 5

-- "The stem uses V = B + A·z.", A and z by exact division
abbrev pub exact_a : ℕ → Fraction
exact_a T = whole (pos 315049301 *ℤ (pos (10 ^ 9 * T) -ℤ pos 138763302)) over 10 ^ 10

abbrev pub exact_z : ℕ → Fraction
exact_z d = whole (pos (314159265 * square d)) over area_scale ⊖ whole (pos 118288000)

abbrev pub exact_v : ℕ → ℕ → Fraction
exact_v T d = whole (B T) ⊕ exact_a T ⊗ exact_z d

unfoldable pub exact_stem : ℕ → ℕ → ℕ → ℕ → Fraction
exact_stem T d f s = exact_v T d over 10 ^ 8 ⊗ whole (pos f) ⊗ whole (pos s) over 10000

-- a straight line, exactly
abbrev pub exact_line : ℤ → ℤ → ℕ → Fraction
exact_line a b d = whole (pos units_to_cm *ℤ a +ℤ b *ℤ pos d) over units_to_cm

-- "Where step 5 uses w, the crown is k tenths of a mg times the crown power"
unfoldable pub exact_crown : ℕ → ℕ → Given → Fraction
exact_crown g d power =
    cond (leb d crown_limit) (whole (Crown.k g) over 10 ⊗ value power) (exact_line (Crown.a g) (Crown.b g) d)

-- "where step 6 uses y, the root is b times the root power, in mg"
unfoldable pub exact_root : ℕ → ℕ → Given → Fraction
exact_root g d power =
    cond (leb d root_limit) (whole (Root.curve_b g) ⊗ value power) (exact_line (Root.line_a g) (Root.line_b g) d)

-- "one tree's biomass in mg"
abbrev pub exact_tree : AverageTree → Given → Given → Fraction
exact_tree t crown_power root_power =
    exact_stem t.tariff t.d t.factor t.gravity
    ⊕ exact_crown t.crown t.d crown_power
    ⊕ exact_root t.root t.d root_power

-- "N/100 times one tree's biomass"
abbrev pub exact_row : ℕ → AverageTree → Given → Given → Fraction
exact_row N t crown_power root_power = whole (pos N) over 100 ⊗ exact_tree t crown_power root_power

-- "the exact value counts number/100 times twice the carbon, undropped" (document 02, Q-1)
abbrev pub exact_small : ℕ → ℕ → Fraction
exact_small number carbon = whole (pos number) over 100 ⊗ whole (pos (2 * carbon))

-- "a fraction of its own for each power that its tree uses": both fractions are not below the powers, or not above them
pub record NotBelow (t : AverageTree) (crown_power root_power : Given) : Type 0 where
  pub on_crown : t.d ≤ crown_limit → NotBelowCrown t.d crown_power
  pub on_root : t.d ≤ root_limit → NotBelowRoot t.d root_power

pub record NotAbove (t : AverageTree) (crown_power root_power : Given) : Type 0 where
  pub on_crown : t.d ≤ crown_limit → NotAboveCrown t.d crown_power
  pub on_root : t.d ≤ root_limit → NotAboveRoot t.d root_power
