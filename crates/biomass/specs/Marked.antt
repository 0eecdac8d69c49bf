-- Document 01's marked lines (a) to (i), as document 02, Q-5, has them, in one list of statements in its order: each says what the definition reports at the line's
-- measures. Beside them stand three borders which they showed with d in tenths, and do not show now. All of them hold (Law.Marked: marked_hold). Line (j) is about a
-- book, and this crate knows no books: `survey` puts it behind this list.
use Rattle.std.specs.Prelude.{ℕ, ◌≡◌, List, [], ◌∷◌, pos, neg_ℤ}
use Rattle.biomass.specs.Report.{Report, gives, ◌then◌}
use Rattle.biomass.specs.Tariff.{single_tariff, line_tariff}
use Rattle.biomass.specs.Mean.{mean}
use Rattle.biomass.specs.Ends.{between}
use Rattle.biomass.specs.Crown.{crown}
use Rattle.biomass.specs.Root.{root}
use Rattle.biomass.specs.Units.{BiomassRange}

-- the last group of the roots, and the last of the crowns
abbrev pub red_alder : ℕ
red_alder = 5

abbrev pub oak : ℕ
oak = 7

-- the low end alone, where document 01 prints no high
abbrev pub low_of : Report BiomassRange → Report ℕ
low_of r = r then (λ m. gives m.low.0)

abbrev pub marked : List (Type 0)
marked =
    -- (a) "those constants, 17 cm, 106 gives 26", the constants being the listing's
    (single_tariff (pos 58830000) (pos 20123000) (neg_ℤ (pos 54780)) (neg_ℤ (pos 57397)) 17 106 ≡ gives 26) ∷
    -- (b) "91605000, 20256000, −668420, −44172, 25 cm, 88 gives 24"
    (single_tariff (pos 91605000) (pos 20256000) (neg_ℤ (pos 668420)) (neg_ℤ (pos 44172)) 25 88 ≡ gives 24) ∷
    -- (c) "tariffs summing to 235 over 9 give 26"
    (line_tariff 235 9 ≡ gives 26) ∷
    -- (d) "n 400: S 19880" and "19881", worked anew: with d in hundredths both give 705. A border between two d is at n 40000, S 1985281
    (mean 400 19880 ≡ gives 705) ∷
    (mean 400 19881 ≡ gives 705) ∷
    (mean 40000 1985280 ≡ gives 704) ∷
    (mean 40000 1985281 ≡ gives 705) ∷
    -- (e) "n 1, S 49", worked anew, gives 700
    (mean 1 49 ≡ gives 700) ∷
    -- "in (f) to (i) d is ten times as great" (document 02, Q-5). (f) "red alder, d" 1000: "7178370 and 7178371"
    (root red_alder 1000 ≡ gives (between 7178370 7178371)) ∷
    -- (g) "d" 3000: "low 111899718"
    (low_of (root red_alder 3000) ≡ gives 111899718) ∷
    -- (h) "d" 3010: "low 112855665". The line begins above 3000
    (low_of (root red_alder 3010) ≡ gives 112855665) ∷
    (low_of (root red_alder 3001) ≡ gives 111995319) ∷
    -- (i) "oak crown, d" 5010: "low 273306566". The line begins above 5000
    (low_of (crown oak 5010) ≡ gives 273306566) ∷
    (low_of (crown oak 5001) ≡ gives 272076284) ∷ []
