-- `codec::bytes::store` meets its contract: each iteration stores the byte before those that are stored, and at the end all of them are.
use Rattle.std.proofs.Common.{◌≡◌, ℕ, suc, ◌+◌, ◌-◌, ◌/◌, ◌%◌, ◌^◌, ◌<◌, ◌≤◌, List, length, set, arith, sym, ap, ap₂, ◌∙◌, div-one, pow-suc}
use Rattle.std.proofs.Math.Nat.{div-div-eq-div-mul}
use Rattle.codec.specs.Bytes.{bytes, stored_at}
use Rattle.codec.proofs.Law.Bytes.{length_bytes}
use Rattle.codec.proofs.Law.Storing.{stored_nothing, stored_before, Stores, full_stores, stored_stores}
use Rattle.codec.proofs.bytes.store.Goals as goal

-- nothing is written where there is no room
full : (b : List ℕ) (at width x : ℕ) → length b < at + width → Stores b at (bytes width x) b at
full b at width x short = full_stores b at (bytes width x) (omega (arith, length_bytes width x))

pub returns-then-buffer-width-clause-bytes : goal.returns-then-buffer-width-clause-bytes
returns-then-buffer-width-clause-bytes c = (full _ _ _ _ (omega arith)).0

pub returns-then-buffer-width-clause-place : goal.returns-then-buffer-width-clause-place
returns-then-buffer-width-clause-place c = (full _ _ _ _ (omega arith)).1

pub returns-then-buffer-width-2-clause-bytes : goal.returns-then-buffer-width-2-clause-bytes
returns-then-buffer-width-2-clause-bytes c = (full _ _ _ _ (omega arith)).0

pub returns-then-buffer-width-2-clause-place : goal.returns-then-buffer-width-2-clause-place
returns-then-buffer-width-2-clause-place c = (full _ _ _ _ (omega arith)).1

pub loop-i-init : goal.loop-i-init
loop-i-init c =
    let b = c.args.buffer.now in
    let no_more : c.args.width - c.args.width ≡ 0 = omega arith in
    record {
      inside = omega arith;
      stored = rw no_more (stored_nothing b (c.args.at + c.args.width));
      left = rw no_more (sym (div-one c.args.x));
    }

-- the byte before those that are stored, and the number without it
stored_one : (b : List ℕ) (at x j k l : ℕ) {c : List ℕ} {i rest : ℕ} → at + j < length b → c ≡ stored_at b (at + i) (bytes k x) → rest ≡ x / 256 ^ k → i ≡ j + 1 →
    l ≡ suc k → set c (at + j) (rest % 256) ≡ stored_at b (at + j) (bytes l x)
stored_one b at x j k l {i} inside stored left is more =
    let place : at + i ≡ at + j + 1 = omega arith in
    ap₂ (λ (c : List ℕ) (r : ℕ). set c (at + j) (r % 256)) stored left
    ∙ rw (more, place) (stored_before b (at + j) (x / 256 ^ k % 256) (bytes k x) inside)

left_over : (x k l : ℕ) {rest : ℕ} → rest ≡ x / 256 ^ k → l ≡ suc k → rest / 256 ≡ x / 256 ^ l
left_over x k l left more = ap (◌/ 256) left ∙ div-div-eq-div-mul x (256 ^ k) 256 ∙ ap (x /◌) (rw more (sym (pow-suc 256 k)))

pub loop-i-preserved : goal.loop-i-preserved
loop-i-preserved c = record {
  inside = omega arith;
  stored = stored_one _ _ _ _ _ _ (omega arith) c.loop-i.invariant.stored c.loop-i.invariant.left (omega arith) (omega arith);
  left = left_over _ _ _ c.loop-i.invariant.left (omega arith);
}

-- all of them
done : (b : List ℕ) (at width x : ℕ) {i : ℕ} {c : List ℕ} → at + width ≤ length b → i ≡ 0 → c ≡ stored_at b (at + i) (bytes (width - i) x) →
    Stores b at (bytes width x) c (at + width)
done b at width x {i} fits is stored =
    let place : at + i ≡ at = omega arith in
    let all : width - i ≡ width = omega arith in
    stored_stores b at (bytes width x) (omega (arith, length_bytes width x)) (stored ∙ rw (place, all), omega (arith, length_bytes width x))

pub returns-clause-bytes : goal.returns-clause-bytes
returns-clause-bytes c = (done _ _ _ _ (omega arith) (omega arith) c.loop-i.invariant.stored).0

pub returns-clause-place : goal.returns-clause-place
returns-clause-place c = (done _ _ _ _ (omega arith) (omega arith) c.loop-i.invariant.stored).1
