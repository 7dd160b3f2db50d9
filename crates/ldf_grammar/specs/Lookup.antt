-- Maps from names to values, as the code has them.
use Rattle.std.specs.Prelude.{◌≡◌, ℕ, List, Option, Some, None}
use Rattle.std.specs.Borrow.{Bor}
use Rattle.std.specs.Option.{option_map}
use Rattle.std.specs.Ordering.{nat_cmp}
use Rattle.std.specs.Cmp.Lexicographic.{slice_cmp}
use Rattle.std.specs.BTreeMap.{BTreeMap, get_by}
use Rattle.bench_model.specs.declared.database.Entry.{Entry}
use Rattle.token_forms.specs.Pieces.{token_text}
use Rattle.ldf_grammar.specs.Gather.{Definitions, first_of}
use Rattle.ldf_grammar.specs.declared.encodings.Encoded.{Encoded}
use Rattle.ldf_grammar.specs.declared.lookups.Lookups.{Lookups}

-- the value of the name
abbrev pub value_at : {T : Type 0} → BTreeMap (Bor (List ℕ)) T → List ℕ → Option T
value_at values name = get_by (λ k. slice_cmp nat_cmp name k.now) values

-- the first value, where there is one, else the second
abbrev pub or_else : {T : Type 0} → Option T → Option T → Option T
or_else (Some x) later = Some x
or_else None later = later

-- the map has these pairs behind what it had
pub record Adds {T : Type 0} (old new : BTreeMap (Bor (List ℕ)) T) (pairs : List (List ℕ × T)) : Type 0 where
  pub each : (name : List ℕ) → value_at new name ≡ or_else (value_at old name) (first_of name pairs)

-- the map has the first values of these pairs
pub record HasFirsts {T : Type 0} (values : BTreeMap (Bor (List ℕ)) T) (pairs : List (List ℕ × T)) : Type 0 where
  pub each : (name : List ℕ) → value_at values name ≡ first_of name pairs

-- the same where the values are lent
pub record HasLent {T : Type 0} (values : BTreeMap (Bor (List ℕ)) (Bor T)) (pairs : List (List ℕ × T)) : Type 0 where
  pub each : (name : List ℕ) → option_map (λ (b : Bor T). b.now) (value_at values name) ≡ first_of name pairs

-- an encoding as a pair
abbrev pub pair_of : List ℕ → Encoded → List ℕ × List Entry
pair_of text encoded = (token_text text encoded.name, encoded.entries)

-- the maps have these definitions
pub record HasDefinitions (lookups : Lookups) (d : Definitions) : Type 0 where
  pub signals : HasFirsts lookups.signals d.signals
  pub stated : HasFirsts lookups.represented d.stated
  pub coded : HasLent lookups.encodings d.coded
