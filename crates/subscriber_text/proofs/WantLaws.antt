-- What the index of the wants finds is what the wants cover.
use Rattle.std.proofs.Common.{◌≡◌, ℕ, ◌<◌, Bool, false, List, [], ◌∷◌, length, map, refl, sym}
use Rattle.std.specs.Prelude.{◌||◌}
use Rattle.std.specs.List.{list_any}
use Rattle.std.specs.List.Sorted.{IsPermutation}
use Rattle.std.proofs.lemmas.Bool.{lt-ltb}
use Rattle.std.proofs.lemmas.List.Sorted.{list_any-IsPermutation}
use Rattle.text_words.specs.Words.{is_empty}
use Rattle.subscriber_text.specs.Wants.{Want, WantList, wants_by, wants_bus, names_bus}

-- a test of the index is one of the wants
pub any_indexed : (test : Want → Bool) (wants index : List Want) → IsPermutation wants index → list_any test index ≡ list_any test wants
any_indexed test wants index same = sym (list_any-IsPermutation test wants index same)

pub is_empty-map : {A B : Type 0} (f : A → B) (xs : List A) → (length xs ≡ 0 → ⊥) → is_empty (map f xs) ≡ false
is_empty-map f [] some = absurd (some refl)
is_empty-map f (x ∷ xs) some = refl

-- where there are wants, those decide
pub by_index : (w : WantList) (test : Want → Bool) (index : List Want) → is_empty w.wants ≡ false → IsPermutation w.wants index → list_any test index ≡ wants_by w test
by_index w test index some same = rw some (any_indexed test w.wants index same)

pub bus_by_index : (w : WantList) (bus : ℕ) (index : List Want) → bus < length w.names → is_empty w.wants ≡ false → IsPermutation w.wants index → list_any (names_bus bus) index ≡ wants_bus w bus
bus_by_index w bus index within some same = rw (lt-ltb bus (length w.names) within) (by_index w (names_bus bus) index some same)

-- where not all are wanted
pub or_index : (whole : Bool) (test : Want → Bool) (wants index : List Want) → whole ≡ false → IsPermutation wants index → list_any test index ≡ (whole || list_any test wants)
or_index whole test wants index none same = rw none (any_indexed test wants index same)
