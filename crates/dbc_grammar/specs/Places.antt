-- What the maps of places have.
use Rattle.std.specs.Prelude.{ℕ, Bool, List, Option}
use Rattle.std.specs.Borrow.{Bor}
use Rattle.std.specs.declared.cmp.Ordering.{Ordering}
use Rattle.std.specs.Ordering.{ordering_then, bool_cmp, nat_cmp}
use Rattle.std.specs.Cmp.Lexicographic.{slice_cmp}
use Rattle.std.specs.BTreeMap.{BTreeMap, get, get_by}
use Rattle.bench_model.specs.declared.database.Key.{Key}

-- the order of keys
abbrev pub key_order : Bool × ℕ → Bool × ℕ → Ordering
key_order a b = ordering_then (bool_cmp a.0 b.0) (nat_cmp a.1 b.1)

-- the place that the map has for a key
abbrev pub message_place : BTreeMap (Bool × ℕ) ℕ → Key → Option ℕ
message_place places key = get key_order places (key.extended, key.id)

-- the place that the map has for a name
abbrev pub signal_place : BTreeMap (Bor (List ℕ)) ℕ → List ℕ → Option ℕ
signal_place places name = get_by (λ k. slice_cmp nat_cmp name k.now) places
