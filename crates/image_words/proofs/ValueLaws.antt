-- A value's texts are those of its references.
use Rattle.std.proofs.Common.{◌≡◌, ◌≢◌, ◌∙◌, ℕ, ℤ, List, [], Option, Some, None, refl, ap, sym, subst, arith}
use Rattle.bench_model.specs.declared.database.Signal.{Signal}
use Rattle.exact_scale.specs.declared.printing.Exact.{Exact}
use Rattle.bench_model.specs.Meaning.{coding_meaning, physical}
use Rattle.image_words.specs.Layout.{HasText, HasOptionalText}
use Rattle.image_words.specs.Knowledge.{Knowledge}
use Rattle.image_words.specs.Reading.{EachHas, TextAt, OptionalTextAt, UnitAt, HasUnit, text_or_empty}
use Rattle.image_words.proofs.TextLaws.{text_is_there}

-- a reference that is 0 is no text, and any other is one
pub no_text : (image : List ℕ) (reference : ℕ) (own : Option (List ℕ)) → HasOptionalText image reference own → reference ≡ 0 → own ≡ None
no_text image reference None h e = refl
no_text image reference (Some text) h e = absurd (omega (arith, e, text_is_there image reference text h))

pub some_text : (image : List ℕ) (reference : ℕ) (own : Option (List ℕ)) → HasOptionalText image reference own → reference ≢ 0 →
    (text : List ℕ) × (own ≡ Some text) × HasText image reference text
some_text image reference None h other = absurd (other h)
some_text image reference (Some text) h other = (text, refl, h)

pub each_text : (k : Knowledge) (reference : ℕ) → EachHas k (OptionalTextAt reference) → reference ≢ 0 → EachHas k (TextAt reference)
each_text k reference has other image bench f =
    let own = has image bench f in
    let text = some_text image reference own.0 own.1 other in
    (text.0, text.2)

pub no_unit : (image : List ℕ) (reference : ℕ) (unit : List ℕ) → HasUnit image reference unit → reference ≡ 0 → unit ≡ []
no_unit image reference unit h e = h.same ∙ ap text_or_empty (no_text image reference h.text h.there e)

pub some_unit : (image : List ℕ) (reference : ℕ) (unit : List ℕ) → HasUnit image reference unit → reference ≢ 0 → HasText image reference unit
some_unit image reference unit h other =
    let text = some_text image reference h.text h.there other in
    let same : text.0 ≡ unit = sym (h.same ∙ ap text_or_empty text.1) in
    let P : List ℕ → Type 0 = λ t. HasText image reference t in
    subst P same text.2

pub each_unit : (k : Knowledge) (reference : ℕ) → EachHas k (UnitAt reference) → reference ≢ 0 → EachHas k (TextAt reference)
each_unit k reference has other image bench f =
    let own = has image bench f in
    (own.0, some_unit image reference own.0 own.1 other)

-- the parts of a value are those of the signal
pub value_is : (s : Signal) (raw r own : ℤ) (name unit : List ℕ) (label : Option (List ℕ)) (value : Exact) → r ≡ raw → own ≡ raw → name ≡ s.name →
    (coding_meaning s.coding r).value ≡ value → unit ≡ (coding_meaning s.coding r).unit → label ≡ (coding_meaning s.coding r).label →
    record { name = name; raw = own; value = value; unit = unit; label = label } ≡ physical s raw
value_is s raw r own name unit label value same kept n v u l =
    let value_path : value ≡ (coding_meaning s.coding raw).value = sym v ∙ ap (λ (x : ℤ). (coding_meaning s.coding x).value) same in
    let unit_path : unit ≡ (coding_meaning s.coding raw).unit = u ∙ ap (λ (x : ℤ). (coding_meaning s.coding x).unit) same in
    let label_path : label ≡ (coding_meaning s.coding raw).label = l ∙ ap (λ (x : ℤ). (coding_meaning s.coding x).label) same in
    λ j. record { name = n j; raw = kept j; value = value_path j; unit = unit_path j; label = label_path j }
