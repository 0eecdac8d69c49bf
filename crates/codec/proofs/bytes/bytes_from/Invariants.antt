-- `codec::bytes::bytes_from` goes from the first byte to the last: those below the i-th are those of the slice.
use Rattle.std.proofs.Common.{◌≡◌, ℕ, ◌+◌, ◌<◌, get_or, length}
use Rattle.codec.specs.Bytes.{byte}
use Rattle.codec.proofs.bytes.bytes_from.Given as goal

abbrev pub invariant-loop-i : goal.invariant-loop-i
invariant-loop-i g l = record {
  long : length l.all ≡ g.row.N;
  filled : (k : ℕ) → k < l.i → get_or l.all k 0 ≡ byte l.fn.s (l.fn.at + k);
}
