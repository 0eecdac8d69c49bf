-- The encoding of a list of commands reads back as that list, and a book that reads through is the encoding of its list. Both by how far the book
-- reads from its start (Law.Reach): the list's encoding to its end, and what reads to its end is the encoding of what was read.
use Rattle.std.specs.Prelude.{ℕ, ◌≡◌, refl, Bool, true, false, cond, List, length, eqb}
use Rattle.std.proofs.Common.{arith, ◌∙◌, sym, ap, subst, take_all, eqb-true}
use Rattle.biomass.specs.Report.{refused, gives}
use Rattle.biomass.proofs.Law.Gives.{never, figure_is}
use Rattle.codec.specs.Bytes.{AllBytes}
use Rattle.survey.specs.Reader.{encode_all, read_all, reach}
use Rattle.codec.proofs.Law.Bytes.{EachByte, no_byte, each_append, each_all, stands_taken}
use Rattle.codec.proofs.Law.RoundTrip.{each_encoded}
use Rattle.survey.proofs.Law.Reach.{stops_at_end, AllFit, none, and_next, reach_encoded, read_all_reach, reach_of_list}
use Rattle.codec.specs.declared.command.Command.{Command}

-- the encoding of a list of commands reads back as that list
pub read_all_encoded : (cs : List Command) → AllFit cs → read_all (encode_all cs) ≡ gives cs
read_all_encoded cs fs = read_all_reach (encode_all cs) ∙ rw (reach_of_list cs fs)

-- and is bytes
each_encoded_all : {cs : List Command} → AllFit cs → EachByte (encode_all cs)
unfolding encode_all
each_encoded_all none = no_byte
each_encoded_all (and_next {c} f fs) = each_append (each_encoded c f) (each_encoded_all fs)

pub encode_all_bytes : (cs : List Command) → AllFit cs → AllBytes (encode_all cs)
encode_all_bytes cs fs = each_all (each_encoded_all fs)

-- a book that reads through is the encoding of its list
pub encoded_read_all : (s : List ℕ) (cs : List Command) → AllBytes s → read_all s ≡ gives cs → encode_all cs ≡ s
encoded_read_all s cs all e = by_end (eqb (reach s 0).why 1) refl (sym (read_all_reach s) ∙ e)
  where
    by_end : (end : Bool) → eqb (reach s 0).why 1 ≡ end → cond end (gives (reach s 0).commands) (refused (reach s 0).why) ≡ gives cs
        → encode_all cs ≡ s
    by_end true one e =
        let l = encode_all (reach s 0).commands in
        let up_to = reach_encoded s 0 all in
        let ends = stops_at_end s 0 (omega arith) (eqb-true (reach s 0).why 1 one) in
        let whole : length l ≡ length s = omega (arith, up_to.stop_is) in
        ap encode_all (sym (figure_is e)) ∙ sym (stands_taken l s 0 up_to.stands (omega arith)) ∙ take_all (length l) s (omega arith)
    by_end false one e = never e

-- whose operands fit their bytes
pub read_all_fit : (s : List ℕ) (cs : List Command) → AllBytes s → read_all s ≡ gives cs → AllFit cs
read_all_fit s cs all e = by_end (eqb (reach s 0).why 1) (sym (read_all_reach s) ∙ e)
  where
    by_end : (end : Bool) → cond end (gives (reach s 0).commands) (refused (reach s 0).why) ≡ gives cs → AllFit cs
    by_end true e = subst AllFit (figure_is e) (reach_encoded s 0 all).fit
    by_end false e = never e

-- so two lists with the same bytes are the same list
pub encode_all_one : (cs ds : List Command) → AllFit cs → AllFit ds → encode_all cs ≡ encode_all ds → cs ≡ ds
encode_all_one cs ds f g e = figure_is (sym (read_all_encoded cs f) ∙ ap read_all e ∙ read_all_encoded ds g)
