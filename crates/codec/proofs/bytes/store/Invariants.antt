-- `codec::bytes::store` goes from the last byte to the first: the bytes from the i-th on are stored, and `rest` is the number without them.
use Rattle.std.proofs.Common.{◌≡◌, ◌+◌, ◌-◌, ◌/◌, ◌^◌, ◌≤◌}
use Rattle.codec.specs.Bytes.{bytes, stored_at}
use Rattle.codec.proofs.bytes.store.Given as goal

abbrev pub invariant-loop-i : goal.invariant-loop-i
invariant-loop-i l = record {
  inside : l.i ≤ l.width;
  stored : l.buffer ≡ stored_at l.initial.buffer (l.at + l.i) (bytes (l.width - l.i) l.x);
  left : l.rest ≡ l.x / 256 ^ (l.width - l.i);
}
