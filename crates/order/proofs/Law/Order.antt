-- Document 02, Q-2: the crew's order is chance. Commands that are exchanged come to the same survey or are refused, both (Law.Exchange); so do reordered ones, and so
-- do the books that read as them. The answer and the sheet hang on that survey alone.
use Rattle.std.specs.Prelude.{ℕ, ◌+◌, ◌≡◌, refl, Bool, true, false, cond, List, [], ◌∷◌, ◌++◌, length}
use Rattle.std.proofs.Common.{arith, ◌∙◌, sym, ap, subst, subst₂}
use Rattle.biomass.specs.Report.{Report, refused, gives, ◌then◌}
use Rattle.biomass.proofs.Law.Gives.{never, figure_is}
use Rattle.codec.specs.Command.{encode}
use Rattle.codec.specs.Bytes.{AllBytes}
use Rattle.codec.specs.declared.command.Command.{Command}
use Rattle.survey.specs.Reader.{encode_all, read_all}
use Rattle.survey.specs.Survey.{fresh, rows_of}
use Rattle.survey.specs.AsWritten.{as_written}
use Rattle.survey.specs.Playing.{Played, ended, stopped, met, play_list_by, play_by}
use Rattle.survey.specs.Total.{Answer, refused_at, totalled, total_of, short, answer_of, total, stored_by, sheet_after}
use Rattle.survey.specs.Promise.{Promised}
use Rattle.survey.proofs.Law.Reach.{AllFit}
use Rattle.survey.proofs.Law.Reader.{read_all_encoded, encode_all_bytes, encoded_read_all, read_all_fit}
use Rattle.survey.proofs.Law.Playing.{play_of_list}
use Rattle.survey.specs.declared.survey.Survey.{Survey}
use Rattle.survey.specs.declared.total.Totals.{Totals}
use Rattle.order.specs.Order.{of_line, parts, SameLines, Reordered, as_it_was, exchange, back, and_then, OtherOrder, Together, both_accepted, both_refused}
use Rattle.order.proofs.Law.Part.{unnumbered, unnumbered_both}
use Rattle.order.proofs.Law.Exchange.{exchanged}
use Rattle.order.proofs.Law.Lines.{lines_reordered}

-- ---- what commands come to, wherever they are refused

abbrev comes_to : Played → Report Survey
comes_to (ended s) = gives s
comes_to (stopped n at) = refused n

unfoldable end_of : List Command → Survey → Report Survey
end_of [] s = cond s.ended (gives s) (refused 1)
end_of (c ∷ cs) s = as_written c s then end_of cs

list_comes_to : (cs : List Command) (at : ℕ) (s : Survey) → comes_to (play_list_by as_written cs at s) ≡ end_of cs s
unfolding play_list_by end_of
list_comes_to [] at s = by_ended s.ended
  where
    by_ended : (b : Bool) → comes_to (cond b (ended s) (stopped 1 at)) ≡ cond b (gives s) (refused 1)
    by_ended true = refl
    by_ended false = refl
list_comes_to (c ∷ cs) at s = by_applied (as_written c s) _ (list_comes_to cs (at + length (encode c)))
  where
    by_applied : (r : Report Survey) (next : Survey → Played) → ((t : Survey) → comes_to (next t) ≡ end_of cs t) → comes_to (met at r next) ≡ r then end_of cs
    by_applied (refused n) next h = refl
    by_applied (gives t) next h = h t

book_comes_to : (a : List ℕ) (cs : List Command) → AllBytes a → read_all a ≡ gives cs → comes_to (play_by as_written a) ≡ end_of cs fresh
book_comes_to a cs bytes reads =
    ap (λ (book : List ℕ). comes_to (play_by as_written book)) (sym (encoded_read_all a cs bytes reads))
    ∙ ap comes_to (play_of_list cs (read_all_fit a cs bytes reads)) ∙ list_comes_to cs 0 fresh

-- ---- reordered commands come to the same survey, from any, or are refused, both

after_both : (r : Report Survey) (f g : Survey → Report Survey) → ((t : Survey) → unnumbered (f t) ≡ unnumbered (g t)) → unnumbered (r then f) ≡ unnumbered (r then g)
after_both (refused n) f g same = refl
after_both (gives t) f g same = same t

exchange_comes_to : (before : List Command) (a b : Command) (after : List Command) → of_line a ≡ true → parts b ≡ false → (s : Survey)
    → unnumbered (end_of (before ++ a ∷ b ∷ after) s) ≡ unnumbered (end_of (before ++ b ∷ a ∷ after) s)
unfolding end_of
exchange_comes_to [] a b after is_of_line parts_not s =
    unnumbered_both (as_written a s) (as_written b) (end_of after)
    ∙ ap (λ (r : Report Survey). unnumbered (r then end_of after)) (exchanged a b is_of_line parts_not s)
    ∙ sym (unnumbered_both (as_written b s) (as_written a) (end_of after))
exchange_comes_to (c ∷ before) a b after is_of_line parts_not s =
    after_both (as_written c s) _ _ (exchange_comes_to before a b after is_of_line parts_not)

reordered_comes_to : {cs ds : List Command} → Reordered cs ds → (s : Survey) → unnumbered (end_of cs s) ≡ unnumbered (end_of ds s)
reordered_comes_to (as_it_was cs) s = refl
reordered_comes_to (exchange before a b after is_of_line parts_not) s = exchange_comes_to before a b after is_of_line parts_not s
reordered_comes_to (back r) s = sym (reordered_comes_to r s)
reordered_comes_to (and_then r q) s = reordered_comes_to r s ∙ reordered_comes_to q s

-- ---- what totalling makes of it

played_together : (sheet : List ℕ) (too_short : Bool) (p q : Played) → unnumbered (comes_to p) ≡ unnumbered (comes_to q)
    → Together sheet (cond too_short (refused_at 16 0) (answer_of p)) (cond too_short sheet (stored_by sheet p))
    (cond too_short (refused_at 16 0) (answer_of q)) (cond too_short sheet (stored_by sheet q))
played_together sheet true p q same = both_refused 16 0 16 0
played_together sheet false (ended s) (ended u) same =
    subst (λ (x : Survey). Together sheet (answer_of (ended s)) (stored_by sheet (ended s)) (answer_of (ended x)) (stored_by sheet (ended x))) (figure_is same)
    (both_accepted (total_of (rows_of s)) (stored_by sheet (ended s)))
played_together sheet false (ended s) (stopped n at) same = never (sym same)
played_together sheet false (stopped n at) (ended u) same = never same
played_together sheet false (stopped n at) (stopped m place) same = both_refused n at m place

-- Two books that differ only in the order of a line's commands, and whatever totalling answers of them, by what it promises
pub order_is_chance : (a b : List ℕ) → OtherOrder a b → (sheet : List ℕ) (r q : Answer) (after beside : List ℕ)
    → Promised a sheet r after → Promised b sheet q beside → Together sheet r after q beside
unfolding total sheet_after
order_is_chance a b books sheet r q after beside promised promised' =
    let same : unnumbered (comes_to (play_by as_written a)) ≡ unnumbered (comes_to (play_by as_written b)) =
    ap unnumbered (book_comes_to a books.first books.bytes_a books.reads_a)
    ∙ reordered_comes_to (lines_reordered books.same_lines) fresh
    ∙ sym (ap unnumbered (book_comes_to b books.second books.bytes_b books.reads_b)) in
    subst₂ (λ r after. Together sheet r after q beside) (sym promised.answered) (sym promised.stored)
    (subst₂ (λ q beside. Together sheet (total a sheet) (sheet_after a sheet) q beside) (sym promised'.answered) (sym promised'.stored)
    (played_together sheet (short sheet) (play_by as_written a) (play_by as_written b) same))

-- the books of two lists of commands are such where the lists are
pub books_of_lists : (cs ds : List Command) → AllFit cs → AllFit ds → SameLines cs ds → OtherOrder (encode_all cs) (encode_all ds)
books_of_lists cs ds fits fits' same =
    record {
      bytes_a = encode_all_bytes cs fits;
      bytes_b = encode_all_bytes ds fits';
      first = cs;
      second = ds;
      reads_a = read_all_encoded cs fits;
      reads_b = read_all_encoded ds fits';
      same_lines = same;
    }

-- so where the one is accepted the other is, with the same totals and the same sheet; and the other way round, since neither is the first
pub accepted_both : {sheet after beside : List ℕ} {r q : Answer} → Together sheet r after q beside → (t : Totals) → r ≡ totalled t → (q ≡ totalled t) × (beside ≡ after)
accepted_both (both_accepted t after) u e = (e, refl)
accepted_both (both_refused n at m place) u e = let clash : ◌≡◌ {A = ℕ} 0 1 = cc in absurd (omega arith)

pub either_way : {sheet after beside : List ℕ} {r q : Answer} → Together sheet r after q beside → Together sheet q beside r after
either_way (both_accepted t after) = both_accepted t after
either_way (both_refused n at m place) = both_refused m place n at
