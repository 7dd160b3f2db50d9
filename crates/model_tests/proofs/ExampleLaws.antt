-- A small image fits: one bus, one message and one big-endian signal with a unit of nine bytes.
use Rattle.std.proofs.Common.{◌≡◌, ℕ, zero, suc, ◌∙◌, ◌<◌, pos, false, List, [], ◌∷◌, length, Some, None, refl, sym, subst, arith}
use Rattle.std.specs.Prelude.{slice_get, slice_index, IsNone}
use Rattle.std.proofs.lemmas.List.Elements.{All-nil, All-cons}
use Rattle.std.proofs.lemmas.List.Sorted.{IsPermutation-refl, IsNonDecreasingBy-short}
use Rattle.multiplex_tree.specs.declared.mark.Parent.{Parent}
use Rattle.multiplex_tree.specs.Chain.{signals_above, ancestor}
use Rattle.multiplex_tree.specs.Activity.{parent_at}
use Rattle.multiplex_tree.specs.Trees.{IsTreeOver}
use Rattle.bench_model.specs.declared.database.Kind.TheVariants.{Can}
use Rattle.bench_model.specs.declared.database.Order.TheVariants.{Motorola}
use Rattle.bench_model.specs.declared.database.Coding.TheVariants.{Scaled}
use Rattle.bench_model.specs.declared.database.Signal.{Signal}
use Rattle.bench_model.specs.declared.database.Message.{Message}
use Rattle.bench_model.specs.declared.database.Bus.{Bus}
use Rattle.bench_model.specs.declared.database.Bench.{Bench}
use Rattle.bench_model.specs.Limits.{IsLabel, IsCoding, IsMade}
use Rattle.bench_model.specs.Check.{IsValid, message_faults, faults_by}
use Rattle.bench_model.specs.ValidBench.{IsValidBus, IsValidBench}
use Rattle.image_words.specs.Layout.{EachRow, bytes_from, HasText}
use Rattle.image_words.specs.Index.{key_entries, HasIndex}
use Rattle.image_words.specs.Image.{HasScaled, HasSignal, HasDecodable, HasMessage, HasBus, Encodes}
use Rattle.image_words.specs.Knowledge.{Fits, SomeFits, Holds}

some_is : (a b : ℕ) → Some a ≡ Some b → b ≡ a
some_is a b e = cc

-- lists of one length in which each place has the same number are the same
same_list : (xs ys : List ℕ) → length ys ≡ length xs → ((i w : ℕ) → slice_get xs i ≡ Some w → slice_get ys i ≡ Some w) → ys ≡ xs
same_list [] [] e h = refl
same_list [] (y ∷ ys) e h = absurd (omega (arith, e))
same_list (x ∷ xs) [] e h = absurd (omega (arith, e))
same_list (x ∷ xs) (y ∷ ys) e h =
    let head : y ≡ x = sym (some_is y x (h 0 x refl)) in
    let tail : ys ≡ xs = same_list xs ys (omega (arith, e)) (λ i w at. h (suc i) w at) in
    λ j. head j ∷ tail j

abbrev pub example_image : List ℕ
example_image =
    32 ∷ 1
    ∷ 0 ∷ 1769473 ∷ 1 ∷ 9 ∷ 26 ∷ 0 ∷ 0
    ∷ 5 ∷ 1835009 ∷ 8 ∷ 1 ∷ 14
    ∷ 1900545 ∷ 17825799 ∷ 0 ∷ 0 ∷ 0 ∷ 0 ∷ 0 ∷ 0 ∷ 1 ∷ 0 ∷ 0 ∷ 1966089
    ∷ 655360
    ∷ 97 ∷ 98 ∷ 99 ∷ 8247328338317437291 ∷ 101 ∷ []

abbrev example_unit : List ℕ
example_unit = 107 ∷ 105 ∷ 108 ∷ 111 ∷ 109 ∷ 101 ∷ 116 ∷ 114 ∷ 101 ∷ []

abbrev example_signal : Signal
example_signal = record {
  name = 99 ∷ [];
  start = 7;
  size = 16;
  order = Motorola;
  signed = false;
  float = false;
  coding = Scaled (record { factor = pos 1; offset = pos 0; k = 0 }) example_unit [];
}

abbrev example_message : Message
example_message = record {
  name = 98 ∷ [];
  key = record { extended = false; id = 5 };
  length = 8;
  signals = example_signal ∷ [];
  tree = record { parents = None ∷ [] };
}

abbrev example_bus : Bus
example_bus = record { name = 97 ∷ []; kind = Can; database = record { messages = example_message ∷ [] } }

abbrev example_bench : Bench
example_bench = record { buses = example_bus ∷ [] }

-- ---- the image encodes it

bus_name : HasText example_image 1769473 (97 ∷ [])
unfolding bytes_from
bus_name = record { size = refl; within = λ h. omega arith; empty = λ e. absurd (omega (arith, e)); content = refl }

message_name : HasText example_image 1835009 (98 ∷ [])
unfolding bytes_from
message_name = record { size = refl; within = λ h. omega arith; empty = λ e. absurd (omega (arith, e)); content = refl }

signal_name : HasText example_image 1900545 (99 ∷ [])
unfolding bytes_from
signal_name = record { size = refl; within = λ h. omega arith; empty = λ e. absurd (omega (arith, e)); content = refl }

signal_unit : HasText example_image 1966089 example_unit
unfolding bytes_from
signal_unit = record { size = refl; within = λ h. omega arith; empty = λ e. absurd (omega (arith, e)); content = refl }

signal_coding : HasScaled example_image 19 (record { factor = pos 1; offset = pos 0; k = 0 }) example_unit []
unfolding EachRow
signal_coding = record {
  kind = refl;
  rows = record { size = refl; each = tt };
  scaling = record { factor = refl; offset = refl; places = refl };
  unit_text = signal_unit;
}

signal_row : HasSignal example_image 14 example_signal
signal_row = record {
  within = omega arith;
  name = signal_name;
  shape = omega arith;
  start = refl;
  size = refl;
  order = refl;
  signed = refl;
  float = refl;
  coding = signal_coding;
}

message_row : HasMessage example_image 9 example_message
unfolding EachRow
message_row = record {
  within = omega arith;
  key = omega arith;
  id = refl;
  extended = refl;
  name = message_name;
  size = refl;
  signals = record { size = refl; each = (signal_row, tt) };
  parents = record { size = refl; each = (refl, tt) };
}

key_index : HasIndex example_image (key_entries 0 (example_message ∷ [])) 26 1
unfolding key_entries
key_index = record {
  within = λ h. omega arith;
  index = record { ascending = IsNonDecreasingBy-short (λ (x : ℕ). x) (655360 ∷ []) (omega arith); same = IsPermutation-refl (655360 ∷ []) };
}

group_index : HasIndex example_image [] 0 0
group_index = record {
  within = λ h. absurd (omega (arith, h));
  index = record { ascending = IsNonDecreasingBy-short (λ (x : ℕ). x) [] (omega arith); same = IsPermutation-refl [] };
}

bus_row : HasBus example_image 2 example_bus
unfolding EachRow
bus_row = record {
  within = omega arith;
  number = omega arith;
  kind = refl;
  name = bus_name;
  messages = record { size = refl; each = (message_row, tt) };
  keys = key_index;
  groups = group_index;
}

example_encodes : Encodes example_image example_bench
unfolding EachRow
example_encodes = record { header = omega arith; whole = omega arith; buses = record { size = refl; each = (bus_row, tt) } }

-- ---- the bench is valid

no_parent : (i : ℕ) (p : Parent) → parent_at (None ∷ []) i ≡ Some p → ⊥
no_parent zero p e = cc
no_parent (suc i) p e = cc

shallow_at : (i : ℕ) → IsNone (ancestor (signals_above (None ∷ [])) 9 i)
unfolding ancestor
shallow_at zero = refl
shallow_at (suc i) = refl

example_coding : IsCoding (Scaled (record { factor = pos 1; offset = pos 0; k = 0 }) example_unit [])
example_coding = (record { factor = omega arith; offset = omega arith; places = omega arith }, All-nil IsLabel)

example_tree : IsTreeOver 1 (None ∷ [])
example_tree = record { number = refl; within = λ i p e. absurd (no_parent i p e); shallow = λ i. shallow_at i }

example_valid : IsValid (record { messages = example_message ∷ [] })
unfolding message_faults faults_by
example_valid = record {
  made = All-cons IsMade example_message []
      (record { tree = example_tree; codings = All-cons (λ (s : Signal). IsCoding s.coding) example_signal [] example_coding (All-nil (λ (s : Signal). IsCoding s.coding)) })
      (All-nil IsMade);
  faultless = refl;
}

example_bench_valid : IsValidBench example_bench
example_bench_valid = record {
  some_buses = omega arith;
  buses = omega arith;
  names = λ i j d less within. absurd (omega (arith, less, within));
  valid = All-cons IsValidBus example_bus [] (record { some_bytes = omega arith; bytes = omega arith; database = example_valid }) (All-nil IsValidBus);
}

pub example_fits : Fits (record { size = 32; buses = 1; known = slice_get example_image }) example_image example_bench
example_fits = record { size = refl; buses = refl; known = λ i w e. e; encodes = example_encodes; valid = example_bench_valid }

-- ---- vectors of these words

pub vector_fits : (items : List ℕ) → items ≡ example_image →
    SomeFits (record { size = length items; buses = slice_index items 1; known = slice_get items })
vector_fits items e =
    let P : List ℕ → Type 0 = λ xs. SomeFits (record { size = length xs; buses = slice_index xs 1; known = slice_get xs }) in
    subst P (sym e) (record { image = example_image; bench = example_bench; fits = example_fits })

-- whatever list fits, the row at its place 14 is that of the signal
pub vector_signal : (items : List ℕ) → items ≡ example_image →
    Holds (record { size = length items; buses = slice_index items 1; known = slice_get items }) (λ image bench. (s : Signal) × HasDecodable image 14 s)
vector_signal items e image bench f =
    let same : image ≡ example_image = same_list items image f.size f.known ∙ e in
    let P : List ℕ → Type 0 = λ xs. HasDecodable xs 14 example_signal in (
      example_signal,
      subst P (sym same) (record {
        signal = signal_row;
        decodable = record { some_bits = omega arith; size = omega arith; start = omega arith; coding = example_coding };
      }),
    )

pub vector_buses : (items : List ℕ) → items ≡ example_image → 0 < slice_index items 1
vector_buses items e = let P : List ℕ → Type 0 = λ xs. 0 < slice_index xs 1 in subst P (sym e) (omega arith)
