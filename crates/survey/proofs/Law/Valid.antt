-- The fresh survey is valid, and every command that is taken leaves a valid survey valid: what it changes has passed its checks (Law.Effect), and what was
-- noted before stays as it was (Law.Stable).
use Rattle.std.specs.Prelude.{ℕ, zero, suc, ◌<◌, ◌≡◌, refl, Bool, true, false, ◌||◌, ◌≢◌, List, [], ◌∷◌, ◌++◌, Option, None, Some, length, get_or, set, replicate}
use Rattle.std.proofs.Common.{zero-le, add-one, arith, ◌∙◌, sym, ap, subst, true≢false, length-set, get_or-set_same, get_or-set_other, take-suc-set}
use Rattle.std.proofs.Math.Decide.{ℕ_discrete}
use Rattle.std.proofs.lemmas.List.{length-replicate}
use Rattle.biomass.specs.Bounds.{Inside}
use Rattle.biomass.specs.Report.{Report, refused, gives, leaves}
use Rattle.line.specs.Line.{factor_at}
use Rattle.survey.specs.Survey.{no_row, fresh, species_at, rows_of, with_tables, with_state, opened, closing_row}
use Rattle.rules.specs.Checks.{most_lines, is_line, any_line}
use Rattle.survey.specs.Apply.{apply, reached}
use Rattle.survey.specs.Valid.{ValidSpecies, ValidFactor, ValidLine, Within, Apart, none, more, Valid}
use Rattle.survey.proofs.Law.Checks.{none_is_some, some_is, is_line_symmetric}
use Rattle.survey.specs.Closings.{Closing}
use Rattle.survey.proofs.Law.Closing.{closes_to}
use Rattle.survey.proofs.Law.Effect.{Follows, Effect, a_species, a_factor, the_line, a_row, effect}
use Rattle.survey.proofs.Law.Stable.{species_stay}
use Rattle.codec.specs.declared.command.Species.{Species}
use Rattle.codec.specs.declared.command.Command.{Command}
use Rattle.line.specs.declared.row.Row.{Row}
use Rattle.line.specs.declared.line.Line.{Line}
use Rattle.survey.specs.declared.survey.Survey.{Survey}

-- ---- the fresh survey

-- nothing but a stands in a list of a alone, nor past its end
pub always : {A : Type 0} (n i : ℕ) (a : A) → get_or (replicate n a) i a ≡ a
always zero i a = refl
always (suc n) zero a = refl
always (suc n) (suc i) a = always n i a

pub fresh_valid : Valid fresh
unfolding fresh
fresh_valid =
    record {
      ids = length-replicate {A = Option Species} 16 None;
      cms = length-replicate {A = Option ℕ} 101 None;
      places = length-replicate most_lines no_row;
      species = λ id x is. none_is_some (sym (always 16 id None) ∙ is);
      factors = λ cm x is. none_is_some (sym (always 101 cm None) ∙ is);
      lines = zero-le;
      room = λ l is. none_is_some is;
      rows = λ i h. absurd (omega arith);
      apart = none;
      line = λ l is. none_is_some is;
      finished = λ h. refl;
    }

-- ---- a species, a factor or the line

-- of what stands in a list with one element set: at that place the new element, elsewhere what stood there
pub set_cases : {A : Type 0} (P : A → Type 0) (l : List A) (i j : ℕ) (a d : A) → i < length l →
    (j ≡ i → P a) → (j ≢ i → P (get_or l j d)) → P (get_or (set l i a) j d)
set_cases P l i j a d fits at_i elsewhere = by_cases (ℕ_discrete j i)
  where
    by_cases : Dec (j ≡ i) → P (get_or (set l i a) j d)
    by_cases (yes e) = subst P (sym (ap (λ (k : ℕ). get_or (set l i a) k d) e ∙ get_or-set_same l i a d fits)) (at_i e)
    by_cases (no other) = subst P (sym (get_or-set_other l i j a d other)) (elsewhere other)

-- a line is valid in a survey as in another where its species and the rows are the same
line_stays : (s t : Survey) (l : Line) → species_at t l.id ≡ Some l.species → rows_of t ≡ rows_of s → ValidLine s l → ValidLine t l
unfolding opened
line_stays s t l there rows v =
    record {
      species = there;
      p = v.p;
      q = v.q;
      plots = v.plots;
      tally = v.tally;
      heights = v.heights;
      small = v.small;
      first = ap (any_line l.stratum l.id) rows ∙ v.first;
    }

-- what every command that is taken keeps (Law.Stable: species_stay)
abbrev SpeciesStay : Survey → Survey → Type 0
SpeciesStay s t = (id : ℕ) (x : Species) → species_at s id ≡ Some x → species_at t id ≡ Some x

module _ (s : Survey) (v : Valid s) where
  -- a species or a factor is given
  tables_valid : (species : List (Option Species)) (factors : List (Option ℕ)) → SpeciesStay s (with_tables s species factors) → length species ≡ 16
      → length factors ≡ 101 → ((id : ℕ) (x : Species) → get_or species id None ≡ Some x → ValidSpecies x)
      → ((cm x : ℕ) → factor_at factors cm ≡ Some x → ValidFactor cm x) → Valid (with_tables s species factors)
  tables_valid species factors stay ids cms species_valid factors_valid =
      record {
        ids = ids;
        cms = cms;
        places = v.places;
        species = species_valid;
        factors = factors_valid;
        lines = v.lines;
        room = v.room;
        rows = v.rows;
        apart = v.apart;
        line = λ l is_open. let before = v.line l is_open in line_stays s _ l (stay l.id l.species before.species) refl before;
        finished = v.finished;
      }

  -- another line follows, or the end of the book
  line_valid : {c : Command} {next : Option Line} {ended : Bool} → Follows c s next ended → Valid (with_state s next ended)
  line_valid g =
      record {
        ids = v.ids;
        cms = v.cms;
        places = v.places;
        species = v.species;
        factors = v.factors;
        lines = v.lines;
        room = g.room v;
        rows = v.rows;
        apart = v.apart;
        line = λ l is_open. let follows = g.line v l is_open in line_stays s _ l follows.species refl follows;
        finished = g.finished v;
      }

-- ---- a row more

either : (s t : Bool) → s || t ≡ false → (s ≡ false) × (t ≡ false)
either true t e = absurd (true≢false e)
either false t e = (refl, e)

any_after : (stratum id : ℕ) (l : List Row) (r : Row) → any_line stratum id l ≡ false → is_line stratum id r ≡ false →
    any_line stratum id (l ++ (r ∷ [])) ≡ false
any_after stratum id [] r h is = ap (λ (test : Bool). test || false) is
any_after stratum id (x ∷ l) r h is =
    let parts = either (is_line stratum id x) (any_line stratum id l) h in
    ap (λ (test : Bool). test || any_line stratum id (l ++ (r ∷ []))) parts.0 ∙ any_after stratum id l r parts.1 is

-- a row after others is apart from them where none of them is of its stratum and species
apart_after : (r : Row) {l : List Row} → Apart l → any_line r.stratum r.species l ≡ false → Apart (l ++ (r ∷ []))
apart_after r none h = more r [] refl none
apart_after r (more x l first a) h =
    let parts = either (is_line r.stratum r.species x) (any_line r.stratum r.species l) h in
    more x (l ++ (r ∷ [])) (any_after x.stratum x.species l r first (is_line_symmetric x r ∙ parts.0)) (apart_after r a parts.1)

close_valid : (s t : Survey) → Valid s → apply Command.Close s ≡ gives t → Valid t
unfolding opened closing_row
close_valid s t v e =
    let g = closes_to s t v e in
    let r = closing_row s.factors g.line in
    let fits : s.closed < length s.rows = omega (arith, v.places, g.room) in
    subst Valid (sym g.is) (record {
      ids = v.ids;
      cms = v.cms;
      places = length-set s.rows s.closed r ∙ v.places;
      species = v.species;
      factors = v.factors;
      lines = omega (arith, g.room);
      room = λ l is. none_is_some is;
      rows = λ i h.
          set_cases Within s.rows s.closed i r no_row fits (λ same. g.within) (λ other. v.rows i (omega arith));
      apart = rw (add-one, take-suc-set s.rows s.closed r fits) (apart_after r v.apart (v.line g.line g.is_open).first);
      line = λ l is. none_is_some is;
      finished = λ ended. refl;
    })

-- ---- every command that is taken

effect_valid : {c : Command} {s t : Survey} {closes : List Closing} → Valid s → Effect c s t closes → SpeciesStay s t → Valid t
effect_valid {s} v (a_species {id = new} {x} g treeless) stay =
    tables_valid s v (set s.species new (Some x)) s.factors stay (length-set s.species new (Some x) ∙ v.ids) v.cms
    (λ id y.
    set_cases (λ (o : Option Species). o ≡ Some y → ValidSpecies y) s.species new id (Some x) None (omega (arith, v.ids))
    (λ same is. subst ValidSpecies (some_is is) g.in_range) (λ other. v.species id y))
    v.factors
effect_valid {s} v (a_factor {cm = new} {x} g treeless) stay =
    tables_valid s v s.species (set s.factors new (Some x)) stay v.ids (length-set s.factors new (Some x) ∙ v.cms) v.species
    (λ cm y.
    set_cases (λ (o : Option ℕ). o ≡ Some y → ValidFactor cm y) s.factors new cm (Some x) None (omega (arith, v.cms))
    (λ same is. record { whole_cm = omega arith; hundredths = subst (λ (z : ℕ). Inside 100 z 200) (some_is is) g.hundredths }) (λ other. v.factors cm y))
effect_valid {s} v (the_line g) stay = line_valid s v g
effect_valid {s} v (a_row r e treeless) stay = close_valid s _ v e

pub apply_valid : (c : Command) (s t : Survey) → Valid s → apply c s ≡ gives t → Valid t
apply_valid c s t v e = effect_valid v (effect c s t e) (species_stay c s t e)

-- so a valid survey is left valid, whether a command is taken or refused, and every survey that is reached from a fresh one is valid
pub after_valid : (c : Command) (s : Survey) → Valid s → Valid (leaves s (apply c s)).left
after_valid c s v = by_report (apply c s) refl
  where
    by_report : (r : Report Survey) → apply c s ≡ r → Valid (leaves s r).left
    by_report (refused n) e = v
    by_report (gives t) e = apply_valid c s t v e

reached_from_valid : (cs : List Command) (s : Survey) → Valid s → Valid (reached cs s)
unfolding reached
reached_from_valid [] s v = v
reached_from_valid (c ∷ cs) s v = reached_from_valid cs (leaves s (apply c s)).left (after_valid c s v)

pub reached_valid : (cs : List Command) → Valid (reached cs fresh)
reached_valid cs = reached_from_valid cs fresh fresh_valid
