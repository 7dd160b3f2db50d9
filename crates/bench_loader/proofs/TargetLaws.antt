-- The place of a bus is that of a bus which is there.
use Rattle.std.proofs.Common.{◌≡◌, ℕ, ◌<◌, List, length, get_or, Some, None, cond, refl, subst, inl, inr}
use Rattle.std.specs.Str.{bytes_eq}
use Rattle.std.specs.Prelude.{nat_lt}
use Rattle.std.specs.List.{position_or_len}
use Rattle.std.proofs.lemmas.Bool.{cases_lt, lt-ltb, le-ltb}
use Rattle.std.proofs.lemmas.Option.{slice_get_read}
use Rattle.bench_model.specs.declared.database.Bus.{Bus}
use Rattle.bench_loader.specs.declared.load_line.Pair.{Pair}
use Rattle.bench_loader.specs.declared.targets.Target.{Target}
use Rattle.bench_loader.specs.Targets.{place_of_bus, IsTarget}

found_within : (n len at : ℕ) → cond (nat_lt n len) (Some n) None ≡ Some at → at < len
found_within n len at e =
    elim (cases_lt n len) [
      | inl within ↦ (let is : Some n ≡ Some at = rw (lt-ltb n len within) at e in subst (λ (k : ℕ). k < len) (cc (is)) within)
      | inr past ↦ (let is : None ≡ Some at = rw (le-ltb n len past) at e in absurd (cc (is)))
    ]

pub place_within : (buses : List Bus) (name : List ℕ) (at : ℕ) → place_of_bus buses name ≡ Some at → at < length buses
place_within buses name at is =
    found_within (position_or_len (λ (bus : Bus). bytes_eq bus.name name) buses) (length buses) at is

pub is_target : (buses : List Bus) (pair : Pair) (at : ℕ) (bus : Bus) → place_of_bus buses pair.bus ≡ Some at → at < length buses → bus ≡ get_or buses at bus
    → (let target : Target = record { bus = at; kind = bus.kind } in IsTarget buses pair target)
is_target buses pair at bus place within is = record {
  bus = bus;
  place = place;
  there = slice_get_read buses (length buses) at bus refl within is;
  kind = refl;
}
