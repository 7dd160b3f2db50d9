-- A list of words encodes at most one bench.
use Rattle.std.proofs.Common.{◌≡◌, ◌∙◌, ℕ, ◌+◌, List, [], ◌∷◌, length, Option, Some, None, refl, ap, sym, arith}
use Rattle.exact_scale.specs.declared.scaling.Scale.{Scale}
use Rattle.multiplex_tree.specs.declared.mark.Range.{Range}
use Rattle.multiplex_tree.specs.declared.mark.Parent.{Parent}
use Rattle.bench_model.specs.declared.database.Label.{Label}
use Rattle.bench_model.specs.declared.database.Entry.{Entry}
use Rattle.bench_model.specs.declared.database.Entry.TheVariants.{Logical, Physical, Plain}
use Rattle.bench_model.specs.declared.database.Coding.{Coding}
use Rattle.bench_model.specs.declared.database.Coding.TheVariants.{Scaled, Listed}
use Rattle.bench_model.specs.declared.database.Signal.{Signal}
use Rattle.bench_model.specs.declared.database.Message.{Message}
use Rattle.bench_model.specs.declared.database.Bus.{Bus}
use Rattle.bench_model.specs.declared.database.Bench.{Bench}
use Rattle.image_words.specs.Layout.{word, bus_words, message_words, signal_words, range_words, label_words, entry_words, header_words, EachRow, HasRows}
use Rattle.image_words.specs.Image.{HasScale, HasRange, HasLabel, HasEntry, HasKindOfEntry, HasCoding, HasSignal, HasParent, HasMessage, HasBus, Encodes}
use Rattle.image_words.proofs.TextLaws.{one_text, one_optional_text}

-- rows of one kind, where each place has one
one_list : {X : Type 0} (Has : ℕ → X → Type 0) (stride at : ℕ) (xs ys : List X) → ((p : ℕ) (x y : X) → Has p x → Has p y → x ≡ y) →
    length xs ≡ length ys → EachRow Has stride at xs → EachRow Has stride at ys → xs ≡ ys
unfolding EachRow
one_list Has stride at [] [] one long h k = refl
one_list Has stride at [] (y ∷ ys) one long h k = absurd (omega (arith, long))
one_list Has stride at (x ∷ xs) [] one long h k = absurd (omega (arith, long))
one_list Has stride at (x ∷ xs) (y ∷ ys) one long h k =
    ap (λ z. z ∷ xs) (one at x y h.0 k.0) ∙ ap (λ zs. y ∷ zs) (one_list Has stride (at + stride) xs ys one (omega (arith, long)) h.1 k.1)

one_table : {X : Type 0} (Has : ℕ → X → Type 0) (stride at count : ℕ) (xs ys : List X) → ((p : ℕ) (x y : X) → Has p x → Has p y → x ≡ y) →
    HasRows Has stride at count xs → HasRows Has stride at count ys → xs ≡ ys
one_table Has stride at count xs ys one h k = one_list Has stride at xs ys one (h.size ∙ sym k.size) h.each k.each

one_range : (image : List ℕ) (at : ℕ) (a b : Range) → HasRange image at a → HasRange image at b → a ≡ b
one_range image at a b h k = λ i. record { low = (h.low ∙ sym k.low) i; high = (h.high ∙ sym k.high) i }

one_scale : (image : List ℕ) (at : ℕ) (a b : Scale) → HasScale image at a → HasScale image at b → a ≡ b
one_scale image at a b h k = λ i. record {
  factor = (h.factor ∙ sym k.factor) i;
  offset = (h.offset ∙ sym k.offset) i;
  k = (h.places ∙ sym k.places) i;
}

one_label : (image : List ℕ) (at : ℕ) (a b : Label) → HasLabel image at a → HasLabel image at b → a ≡ b
one_label image at a b h k = λ i. record {
  raw = (h.raw ∙ sym k.raw) i;
  text = one_text image (word image (at + 2)) a.text b.text h.text k.text i;
}

one_kind_of_entry : (image : List ℕ) (at : ℕ) (a b : Entry) → HasKindOfEntry image at a → HasKindOfEntry image at b → a ≡ b
one_kind_of_entry image at (Logical r t) (Logical s u) h k =
    λ i. Logical ((h.low ∙ sym k.low) i) (one_optional_text image (word image (at + 6)) t u h.label k.label i)
one_kind_of_entry image at (Physical l m s u) (Physical n o t v) h k =
    λ i. Physical ((h.low_word ∙ sym k.low_word) i) ((h.high_word ∙ sym k.high_word) i)
    (one_scale image (at + 3) s t h.scaling k.scaling i) (one_text image (word image (at + 6)) u v h.unit_text k.unit_text i)
one_kind_of_entry image at Plain Plain h k = refl
one_kind_of_entry image at (Logical r t) (Physical n o s v) h k = absurd (omega (arith, h.kind, k.kind))
one_kind_of_entry image at (Logical r t) Plain h k = absurd (omega (arith, h.kind, k.kind))
one_kind_of_entry image at (Physical l m s u) (Logical r t) h k = absurd (omega (arith, h.kind, k.kind))
one_kind_of_entry image at (Physical l m s u) Plain h k = absurd (omega (arith, h.kind, k.kind))
one_kind_of_entry image at Plain (Logical r t) h k = absurd (omega (arith, h.kind, k.kind))
one_kind_of_entry image at Plain (Physical l m s u) h k = absurd (omega (arith, h.kind, k.kind))

one_entry : (image : List ℕ) (at : ℕ) (a b : Entry) → HasEntry image at a → HasEntry image at b → a ≡ b
one_entry image at a b h k = one_kind_of_entry image at a b h.kind k.kind

one_coding : (image : List ℕ) (at : ℕ) (a b : Coding) → HasCoding image at a → HasCoding image at b → a ≡ b
one_coding image at (Scaled s u ls) (Scaled t v ms) h k =
    λ i. Scaled (one_scale image (at + 3) s t h.scaling k.scaling i) (one_text image (word image (at + 6)) u v h.unit_text k.unit_text i)
    (one_table (HasLabel image) label_words (word image (at + 1)) (word image (at + 2)) ls ms (one_label image) h.rows k.rows i)
one_coding image at (Listed es) (Listed fs) h k =
    λ i. Listed (one_table (HasEntry image) entry_words (word image (at + 1)) (word image (at + 2)) es fs (one_entry image) h.rows k.rows i)
one_coding image at (Scaled s u ls) (Listed fs) h k = absurd (omega (arith, h.kind, k.kind))
one_coding image at (Listed es) (Scaled t v ms) h k = absurd (omega (arith, h.kind, k.kind))

pub one_signal : (image : List ℕ) (at : ℕ) (a b : Signal) → HasSignal image at a → HasSignal image at b → a ≡ b
one_signal image at a b h k = λ i. record {
  name = one_text image (word image at) a.name b.name h.name k.name i;
  start = (h.start ∙ sym k.start) i;
  size = (h.size ∙ sym k.size) i;
  order = (h.order ∙ sym k.order) i;
  signed = (h.signed ∙ sym k.signed) i;
  float = (h.float ∙ sym k.float) i;
  coding = one_coding image (at + 5) a.coding b.coding h.coding k.coding i;
}

one_parent : (image : List ℕ) (at : ℕ) (a b : Option Parent) → HasParent image at a → HasParent image at b → a ≡ b
one_parent image at None None h k = refl
one_parent image at None (Some q) h k = absurd (omega (arith, h, k.signal))
one_parent image at (Some p) None h k = absurd (omega (arith, k, h.signal))
one_parent image at (Some p) (Some q) h k =
    let signal : p.signal ≡ q.signal = omega (arith, h.signal, k.signal) in
    λ i. Some (record {
      signal = signal i;
      ranges = one_table (HasRange image) range_words (word image (at + 3)) (word image (at + 4)) p.ranges q.ranges (one_range image) h.rows k.rows i;
    })

one_message : (image : List ℕ) (at : ℕ) (a b : Message) → HasMessage image at a → HasMessage image at b → a ≡ b
one_message image at a b h k = λ i. record {
  name = one_text image (word image (at + 1)) a.name b.name h.name k.name i;
  key = record { extended = (h.extended ∙ sym k.extended) i; id = (h.id ∙ sym k.id) i };
  length = (h.size ∙ sym k.size) i;
  signals = one_table (HasSignal image) signal_words (word image (at + 4)) (word image (at + 3)) a.signals b.signals (one_signal image) h.signals k.signals i;
  tree = record { parents = one_table (HasParent image) signal_words (word image (at + 4)) (word image (at + 3)) a.tree.parents b.tree.parents (one_parent image) h.parents k.parents i };
}

one_bus : (image : List ℕ) (at : ℕ) (a b : Bus) → HasBus image at a → HasBus image at b → a ≡ b
one_bus image at a b h k = λ i. record {
  name = one_text image (word image (at + 1)) a.name b.name h.name k.name i;
  kind = (h.kind ∙ sym k.kind) i;
  database = record { messages = one_table (HasMessage image) message_words (word image (at + 3)) (word image (at + 2)) a.database.messages b.database.messages (one_message image) h.messages k.messages i };
}

pub one_encoded : (image : List ℕ) (a b : Bench) → Encodes image a → Encodes image b → a ≡ b
one_encoded image a b h k = λ i. record {
  buses = one_table (HasBus image) bus_words header_words (word image 1) a.buses b.buses (one_bus image) h.buses k.buses i;
}
