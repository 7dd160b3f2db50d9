-- Wants, words and lists of the code as the definitions see them.
use Rattle.std.specs.Prelude.{ℕ, List, map, Option, Vec}
use Rattle.std.specs.declared.cmp.Ordering.{Ordering}
use Rattle.std.specs.Ordering.{nat_cmp, ordering_then}
use Rattle.std.specs.Cmp.Lexicographic.{slice_cmp}
use Rattle.std.specs.Option.{option_map, option_cmp}
use Rattle.std.specs.Borrow.{Bor}
use Rattle.std.specs.declared.alloc.Global.{Global}
use Rattle.subscriber_text.specs.Wants.{Want}
use Rattle.subscriber_text.specs.declared.want.NamedWant.{NamedWant}

-- words behind references
abbrev pub texts : List (Bor (List ℕ)) → List (List ℕ)
texts words = map (λ word. word.now) words

-- a name that is there, or none
abbrev pub name_view : Option (Vec ℕ Global) → Option (List ℕ)
name_view name = option_map (λ bytes. bytes.items) name

abbrev pub want_view : NamedWant → Want
want_view w = record { bus = w.bus; message = name_view w.message; signal = name_view w.signal }

abbrev pub wants_view : List NamedWant → List Want
wants_view wants = map want_view wants

-- a name that is handed in, or none
abbrev pub name_of : Option (Bor (List ℕ)) → Option (List ℕ)
name_of name = option_map (λ bytes. bytes.now) name

-- names in the order of their bytes; none comes before every name
abbrev pub name_cmp : Option (List ℕ) → Option (List ℕ) → Ordering
name_cmp a b = option_cmp (slice_cmp nat_cmp) a b

-- how a want compares with a bus and a message, and with another want: by the bus, then the message, then the signal
abbrev pub message_key : Want → ℕ × Option (List ℕ)
message_key want = (want.bus, want.message)

abbrev pub key_cmp : ℕ × Option (List ℕ) → ℕ × Option (List ℕ) → Ordering
key_cmp a b = ordering_then (nat_cmp a.0 b.0) (name_cmp a.1 b.1)

abbrev pub message_cmp : Want → ℕ × Option (List ℕ) → Ordering
message_cmp want key = key_cmp (message_key want) key

abbrev pub want_cmp : Want → Want → Ordering
want_cmp a b = ordering_then (message_cmp a (message_key b)) (name_cmp a.signal b.signal)
