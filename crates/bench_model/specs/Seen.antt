-- What the search for duplicates remembers: the keys and the names so far, as sets of the code.
use Rattle.std.specs.Prelude.{ℕ, Bool, List}
use Rattle.std.specs.Borrow.{Bor}
use Rattle.std.specs.declared.cmp.Ordering.{Ordering}
use Rattle.std.specs.Ordering.{ordering_then, bool_cmp, nat_cmp}
use Rattle.std.specs.Cmp.Lexicographic.{slice_cmp}
use Rattle.std.specs.BTreeSet.{BTreeSet, contains, contains_by}
use Rattle.bench_model.specs.declared.database.Key.{Key}

-- the order of keys as the set has them
abbrev pub key_order : Bool × ℕ → Bool × ℕ → Ordering
key_order a b = ordering_then (bool_cmp a.0 b.0) (nat_cmp a.1 b.1)

-- whether the set has this key
abbrev pub is_key_seen : BTreeSet (Bool × ℕ) → Key → Bool
is_key_seen seen key = contains key_order seen (key.extended, key.id)

-- whether the set has this name
abbrev pub is_name_seen : BTreeSet (Bor (List ℕ)) → List ℕ → Bool
is_name_seen seen name = contains_by (λ k. slice_cmp nat_cmp name k.now) seen
