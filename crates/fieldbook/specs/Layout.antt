-- How answers and refusals are laid out for programs in other languages. Every function that refuses anything answers 0 or the refusal's number in
-- documents 01 and 02 (Law: zero_is_totalled and the like: 0 is told of no refusal). What it found is put into the numbers that the caller lends, and where it is
-- refused they are 0.
use Rattle.std.specs.Prelude.{ℕ, zero, suc, List, [], ◌∷◌, get_or, replicate}
use Rattle.biomass.specs.Report.{Report, refused, gives, ◌then◌}
use Rattle.biomass.specs.Units.{BiomassRange, CarbonRange}
use Rattle.biomass.specs.declared.units.Range.{Range}
use Rattle.codec.specs.Writing.{write}
use Rattle.codec.specs.Writing as Writing
use Rattle.survey.specs.Total.{Answer, refused_at, totalled}
use Rattle.codec.specs.declared.command.Command.{Command}
use Rattle.line.specs.declared.row.Row.{Row}
use Rattle.fieldbook.specs.Numbers.{numbers, command_of}

-- 0, or the number of the refusal
abbrev pub refusal : {A : Type 0} → Report A → ℕ
refusal (refused n) = n
refusal (gives a) = 0

-- what is put into the numbers: those of what is found, and zeros where it is refused
abbrev pub laid : {A N : Type 0} → (A → N) → N → Report A → N
laid numbers zeros (refused n) = zeros
laid numbers zeros (gives a) = numbers a

-- a figure that is one number
abbrev pub figure : Report ℕ → ℕ
figure = laid (λ c. c) 0

-- a low and a high of masses of one unit
abbrev pub range_numbers : {U : Type 0} → (U → ℕ) → Range U → List ℕ
range_numbers mass m = mass m.low ∷ mass m.high ∷ []

-- in milligrams of biomass, or in grams of carbon dioxide
abbrev pub ends : Report BiomassRange → List ℕ
ends = laid (range_numbers (λ m. m.0)) (0 ∷ 0 ∷ [])

abbrev pub carbon_ends : Report CarbonRange → List ℕ
carbon_ends = laid (range_numbers (λ m. m.0)) (0 ∷ 0 ∷ [])

-- totalling: the number of rows, the N of all lines added, the project's low and high; and the place of a refusal
abbrev pub book_refusal : Answer → ℕ
book_refusal (refused_at n at) = n
book_refusal (totalled t) = 0

abbrev pub totals : Answer → List ℕ
totals (refused_at n at) = 0 ∷ 0 ∷ 0 ∷ 0 ∷ at ∷ []
totals (totalled t) = t.rows ∷ t.trees ∷ t.carbon.low.0 ∷ t.carbon.high.0 ∷ 0 ∷ []

-- and what these numbers say: where 0 came back the totals, and else the refusal and its place (Law: answered_again: just what totalling answers)
abbrev pub answered : ℕ → List ℕ → Answer
answered zero ns =
    totalled (record {
      rows = get_or ns 0 0;
      trees = get_or ns 1 0;
      carbon = record { low = record { 0 = get_or ns 2 0 }; high = record { 0 = get_or ns 3 0 } };
    })
answered (suc n) ns = refused_at (suc n) (get_or ns 4 0)

-- a row of the sheet: stratum, species, T, d, N, low and high
abbrev pub row_numbers : Row → List ℕ
row_numbers r = r.stratum ∷ r.species ∷ r.tariff ∷ r.d ∷ r.trees ∷ r.biomass.low.0 ∷ r.biomass.high.0 ∷ []

abbrev pub found_row : Report Row → List ℕ
found_row = laid row_numbers (replicate 7 0)

-- a command that was read
abbrev pub command : Report (Command × ℕ) → List ℕ
command = laid (λ r. numbers r.0) (replicate 9 0)

-- writing the command that numbers stand for: the place after it, or the refusal of either
abbrev pub write_numbers : List ℕ → ℕ → List ℕ → Report ℕ
write_numbers b at ns = command_of ns then λ c. write b at c

-- what every byte of the buffer then is
abbrev pub buffer_after : List ℕ → ℕ → Report Command → List ℕ
buffer_after b at (refused n) = b
buffer_after b at (gives c) = Writing.buffer_after b at c

-- the place to go on from: after a command that was written the place after it, and after a refusal the place where it was
abbrev pub next_place : ℕ → Report ℕ → ℕ
next_place at (refused n) = at
next_place at (gives next) = next
