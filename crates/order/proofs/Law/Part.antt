-- When two commands that are applied one after the other, to a survey or to a line, are taken in either order, and come to the same: where each looks at a part that
-- the other leaves alone, or where both add to one part, whose sums do not hang on the order. Which number a refusal has is left open: it may be another.
use Rattle.std.specs.Prelude.{ℕ, ◌≡◌, refl, Bool, true, false, Option, None, Some}
use Rattle.std.proofs.Common.{◌∙◌, sym, ap}
use Rattle.biomass.specs.Report.{Report, refused, gives, when, ◌then◌, given}
use Rattle.biomass.proofs.Law.SameChecks.{when_then, then_same, then_then}
use Rattle.survey.specs.Survey.{with_line}
use Rattle.survey.specs.Apply.{on_line}
use Rattle.line.specs.declared.line.Line.{Line}
use Rattle.survey.specs.declared.survey.Survey.{Survey}

-- ---- reports, but for the number of the refusal

abbrev pub unnumbered : {A : Type 0} → Report A → Report A
unnumbered (refused n) = refused 0
unnumbered (gives a) = gives a

-- two that hang on nothing of each other are asked in either order
either_first : {X Y A : Type 0} (p : Report X) (q : Report Y) (h k : X → Y → A) → ((x : X) (y : Y) → h x y ≡ k x y)
    → unnumbered (p then λ x. q then λ y. gives (h x y)) ≡ unnumbered (q then λ y. p then λ x. gives (k x y))
either_first (refused n) (refused m) h k same = refl
either_first (refused n) (gives y) h k same = refl
either_first (gives x) (refused m) h k same = refl
either_first (gives x) (gives y) h k same = ap gives (same x y)

-- what comes after a report hangs on no number of its
refused_after : {X A : Type 0} (r : Report X) (n : ℕ) → unnumbered {A = A} (r then λ x. refused n) ≡ refused 0
refused_after (refused m) n = refl
refused_after (gives x) n = refl

unnumbered_first : {X A : Type 0} (r : Report X) (k : X → Report A) → unnumbered (r then k) ≡ unnumbered (unnumbered r then k)
unnumbered_first (refused n) k = refl
unnumbered_first (gives x) k = refl

pub unnumbered_both : {X Y A : Type 0} (r : Report X) (f : X → Report Y) (k : Y → Report A)
    → unnumbered (r then λ x. f x then k) ≡ unnumbered (unnumbered (r then f) then k)
unnumbered_both (refused n) f k = refl
unnumbered_both (gives x) f k = unnumbered_first (f x) k

-- two that add to one thing, each what its operands give, are asked in either order where any two may be added in either
add_either_first : {I X A : Type 0} (p q : Report I) (add : I → X → Report X) (x : X) (k : X → A)
    → ((i j : I) → unnumbered (add i x then add j) ≡ unnumbered (add j x then add i))
    → unnumbered (p then (λ i. add i x) then λ y. q then (λ j. add j y) then λ z. gives (k z))
    ≡ unnumbered (q then (λ j. add j x) then λ y. p then (λ i. add i y) then λ z. gives (k z))
add_either_first (refused n) (refused m) add x k same = refl
add_either_first (refused n) (gives j) add x k same = sym (refused_after (add j x) n)
add_either_first (gives i) (refused m) add x k same = refused_after (add i x) m
add_either_first {X = X} {A = A} (gives i) (gives j) add x k same =
    let after : X → Report A = λ z. gives (k z) in
    unnumbered_both (add i x) (add j) after ∙ ap (λ (r : Report X). unnumbered (r then after)) (same i j) ∙ sym (unnumbered_both (add j x) (add i) after)

-- ---- a command by its part of what it is applied to

-- two commands are taken in the one order where they are in the other, and come to the same
abbrev pub Exchanges : {S : Type 0} → (S → Report S) → (S → Report S) → Type 0
Exchanges {S} f g = (s : S) → unnumbered (f s then g) ≡ unnumbered (g s then f)

-- and so do two that answer as they do
pub exchanges_same : {S : Type 0} {f f' g g' : S → Report S} → ((s : S) → f s ≡ f' s) → ((s : S) → g s ≡ g' s) → Exchanges f g → Exchanges f' g'
exchanges_same {S} {f} {f'} {g} {g'} same same' both s =
    let first = ap (λ (r : Report S). unnumbered (r then g')) (sym (same s)) ∙ ap unnumbered (then_same (f s) g' g (λ t. sym (same' t))) in
    let second = ap (λ (r : Report S). unnumbered (r then f)) (same' s) ∙ ap unnumbered (then_same (g' s) f f' same) in
    first ∙ both s ∙ second

-- a command by what it looks at, and what it then puts there
pub record Part {S X : Type 0} (look : S → Report X) (put : X → S → S) (f : S → Report S) : Type 0 where
  pub is : (s : S) → (look s then λ x. gives (put x s)) ≡ f s

-- before another, which answers so of what it leaves
part_then : {S X : Type 0} {look : S → Report X} {put : X → S → S} {f : S → Report S} → Part look put f
    → (g : S → Report S) (s : S) (after : X → Report S) → ((x : X) → g (put x s) ≡ after x) → f s then g ≡ look s then after
part_then {S} {look = look} {put = put} p g s after same =
    ap (λ (r : Report S). r then g) (sym (p.is s)) ∙ then_then g (look s) (λ x. gives (put x s)) after (λ x looked. same x)

-- two of which each looks at what the other leaves alone
module _ {S X Y : Type 0} {look : S → Report X} {put : X → S → S} {look' : S → Report Y} {put' : Y → S → S} where
  pub beside : {f g : S → Report S} → Part look put f → Part look' put' g
      → ((x : X) (s : S) → look' (put x s) ≡ look' s) → ((y : Y) (s : S) → look (put' y s) ≡ look s)
      → ((x : X) (y : Y) (s : S) → put' y (put x s) ≡ put x (put' y s)) → Exchanges f g
  beside {f} {g} p q same same' both s =
      ap unnumbered (part_then p g s _ λ x. sym (q.is (put x s)) ∙ ap (λ (r : Report Y). r then λ y. gives (put' y (put x s))) (same x s))
      ∙ either_first (look s) (look' s) (λ x y. put' y (put x s)) (λ x y. put x (put' y s)) (λ x y. both x y s)
      ∙ sym (ap unnumbered (part_then q f s _ λ y. sym (p.is (put' y s)) ∙ ap (λ (r : Report X). r then λ x. gives (put x (put' y s))) (same' y s)))

-- a command that adds what its operands give to what was noted there
pub record Note {S I X : Type 0} (operands : S → Report I) (add : I → X → Report X) (get : S → X) (put : X → S → S) (f : S → Report S) : Type 0 where
  pub part : Part (λ s. operands s then λ i. add i (get s)) put f

pub note : {S I X : Type 0} (operands : S → Report I) (add : I → X → Report X) (get : S → X) (put : X → S → S) {f : S → Report S}
    → ((s : S) → (operands s then λ i. add i (get s) then λ x. gives (put x s)) ≡ f s) → Note operands add get put f
note operands add get put adds =
    record { part = record { is = λ s. then_then (λ x. gives (put x s)) (operands s) (λ i. add i (get s)) _ (λ i given. refl) ∙ adds s } }

-- two that add to the same. The second looks at what the first has put there, and else at what it left alone
abbrev pub Again : {S I X : Type 0} → (S → Report I) → (I → X → Report X) → (S → X) → (X → S → S) → Type 0
Again {S} {X = X} operands add get put =
    (x : X) (s : S)
    → (operands (put x s) then (λ i. add i (get (put x s))) then λ y. gives (put y (put x s))) ≡ (operands s then (λ i. add i x) then λ y. gives (put y s))

module _ {S I X : Type 0} {operands operands' : S → Report I} {add : I → X → Report X} {get : S → X} {put : X → S → S} where
  pub within : {f g : S → Report S} → Note operands add get put f → Note operands' add get put g
      → Again operands add get put → Again operands' add get put
      → ((i j : I) (x : X) → unnumbered (add i x then add j) ≡ unnumbered (add j x then add i)) → Exchanges f g
  within {f} {g} m n again again' either s =
      ap unnumbered (part_then m.part g s _ λ x. sym (n.part.is (put x s)) ∙ again' x s)
      ∙ add_either_first (operands s) (operands' s) add (get s) (λ x. put x s) (λ i j. either i j (get s))
      ∙ sym (ap unnumbered (part_then n.part f s _ λ x. sym (m.part.is (put x s)) ∙ again x s))

-- ---- a command of the open line

-- it looks at the line, and puts another there
pub line_part : (note : Line → Report Line) → Part (λ s. when s.ended 5 (given s.line 10 then note)) (λ m s. with_line s m) (on_line note)
line_part note =
    record {
      is = λ s.
          let put : Line → Report Survey = λ m. gives (with_line s m) in
          when_then put s.ended 5 _ _ (λ not_ended. then_then put (given s.line 10) note _ (λ l is_open. refl));
    }

-- so where two are taken of a line in either order, they are of a survey: both are asked for the same of the survey, and then for the line's own
asked_same : (ended : Bool) (line : Option Line) (F G : Line → Report Survey) → ((l : Line) → unnumbered (F l) ≡ unnumbered (G l))
    → unnumbered (when ended 5 (given line 10 then F)) ≡ unnumbered (when ended 5 (given line 10 then G))
asked_same true line F G same = refl
asked_same false None F G same = refl
asked_same false (Some l) F G same = same l

module _ (s : Survey) where
  abbrev kept : Line → Report Survey
  kept m = gives (with_line s m)

  both_then : (f g : Line → Report Line) → on_line f s then on_line g ≡ when s.ended 5 (given s.line 10 then λ l. f l then λ m. g m then kept)
  both_then f g =
      let second : Line → Report Survey = λ m. when s.ended 5 (g m then kept) in
      part_then (line_part f) (on_line g) s second (λ m. refl)
      ∙ when_then second s.ended 5 _ _ (λ not_ended.
      then_then second (given s.line 10) f _ (λ l is_open.
      then_same (f l) _ _ (λ m. ap (λ (b : Bool). when b 5 (g m then kept)) not_ended)))

pub of_open_line : (f g : Line → Report Line) → Exchanges f g → Exchanges (on_line f) (on_line g)
of_open_line f g both s =
    ap unnumbered (both_then s f g)
    ∙ asked_same s.ended s.line _ _ (λ l.
    unnumbered_both (f l) g (kept s) ∙ ap (λ (r : Report Line). unnumbered (r then kept s)) (both l) ∙ sym (unnumbered_both (g l) f (kept s)))
    ∙ sym (ap unnumbered (both_then s g f))
