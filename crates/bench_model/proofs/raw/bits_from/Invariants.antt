use Rattle.std.proofs.Common.{◌≡◌, ◌+◌, ◌*◌, ◌-◌, ◌≤◌, ◌<◌, ◌^◌, map}
use Rattle.bench_model.specs.Raw.{bit, places_from, weight, is_within}
use Rattle.bench_model.proofs.raw.bits_from.Given as goal

-- The places that are left decide whether all are within, and their bits come below those read so far.
abbrev pub invariant-loop : goal.invariant-loop
invariant-loop l = record {
  place : l.place ≤ 14342 + 15 * l.counter;
  small : l.bits < 2 ^ l.counter;
  within : is_within l.bytes (places_from l.order l.first l.size) ≡ is_within l.bytes (places_from l.order l.place (l.size - l.counter));
  sum : weight (map (bit l.bytes) (places_from l.order l.first l.size)) ≡ l.bits * 2 ^ (l.size - l.counter) + weight (map (bit l.bytes) (places_from l.order l.place (l.size - l.counter)));
}
