-- `codec::reading::byte_and_pair` meets its contract: what it reads is of the three bytes from the place on, and the pair is high byte first.
use Rattle.std.proofs.Common.{◌≡◌, ◌+◌, ◌≤◌, ℕ, List, length, leb, le-leb, get_or, arith}
use Rattle.std.proofs.lemmas.Grind.{common_steps}
use Rattle.biomass.specs.Report.{Report, gives, unless}
use Rattle.codec.specs.Bytes.{byte, number_at}
use Rattle.codec.proofs.reading.byte_and_pair.Goals as goal

abbrev read_pair : ℕ → ℕ → Report (ℕ × ℕ)
read_pair first pair = gives (first, pair)

-- where there are three, and the two numbers are those that the definition has
both : (s : List ℕ) (i : ℕ) {first pair : ℕ} → i + 3 ≤ length s → first ≡ byte s i → pair ≡ number_at 2 s (i + 1)
    → read_pair first pair ≡ unless (leb (i + 3) (length s)) 3 (read_pair (byte s i) (number_at 2 s (i + 1)))
both s i enough one two = rw (le-leb (i + 3) (length s) enough, one, two)

pub returns : goal.returns
returns c =
    let o = c.in_ok-first.field-0.now in
    let read = c.in_ok-first.ensures in
    let s = c.args.book.now in
    let i = c.args.from in
    let first : get_or o 0 0 ≡ byte s i = grind (arith, common_steps, read.1) in
    let second : get_or o 1 0 ≡ byte s (i + 1) = grind (arith, common_steps, read.1) in
    let third : get_or o 2 0 ≡ byte s (i + 1 + 1) = grind (arith, common_steps, read.1) in
    both s i read.0 first (omega (arith, c.from_be_bytes.ensures, second, third))
