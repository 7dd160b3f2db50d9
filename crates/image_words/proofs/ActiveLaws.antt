-- A signal is active where each parent on the way up selects what is below it.
use Rattle.std.proofs.Common.{◌≡◌, ◌≢◌, ◌∙◌, ℕ, ◌+◌, ◌-◌, ◌*◌, ◌<◌, Bool, true, false, List, Option, Some, None, refl, ap, sym, subst, arith}
use Rattle.std.specs.Prelude.{slice_get}
use Rattle.std.specs.Option.{option_flatten, option_map}
use Rattle.std.proofs.lemmas.Option.{slice_get-map}
use Rattle.multiplex_tree.specs.declared.mark.Range.{Range}
use Rattle.multiplex_tree.specs.declared.mark.Parent.{Parent}
use Rattle.multiplex_tree.specs.Chain.{most_parents, signals_above, ancestor}
use Rattle.multiplex_tree.specs.Activity.{parent_at, is_in_ranges, selects, is_active_within, is_active}
use Rattle.bench_model.specs.declared.database.Message.{Message}
use Rattle.bench_model.specs.declared.database.Signal.{Signal}
use Rattle.bench_model.specs.Decodable.{IsDecodableSignal}
use Rattle.bench_model.specs.Raw.{raw_value}
use Rattle.bench_model.specs.Meaning.{raw_values}
use Rattle.image_words.specs.declared.shape.Shape.{Shape}
use Rattle.image_words.specs.declared.rows.Level.{Level}
use Rattle.image_words.specs.Layout.{word, signal_words}
use Rattle.image_words.specs.Image.{HasSignal, HasParent, HasDecodable}
use Rattle.image_words.specs.Knowledge.{Knowledge, SomeFits, Holds}
use Rattle.image_words.specs.Reading.{EachHas, RangesAt, SignalAt, SignalsAt, IsLevel, HasShape, IsTop, IsPassedOver, IsSelected}
use Rattle.image_words.proofs.SearchLaws.{all_at}
use Rattle.image_words.proofs.RowLaws.{row_of}

-- ---- the rows of a message's signals

pub signal_of : (at count place : ℕ) (image : List ℕ) (m : Message) → SignalsAt at count image m → place < count →
    (s : Signal) × (slice_get m.signals place ≡ Some s) × HasDecodable image (at + signal_words * place) s
signal_of at count place image m has h =
    let found = row_of (HasSignal image) 12 at count m.signals place has.signals h in
    (found.0, found.1, record { signal = found.2; decodable = all_at IsDecodableSignal m.signals place found.0 has.decodable.signals found.1 })

parent_of : (at count place : ℕ) (image : List ℕ) (m : Message) → SignalsAt at count image m → place < count →
    (p : Option Parent) × (parent_at m.tree.parents place ≡ p) × HasParent image (at + signal_words * place) p
parent_of at count place image m has h =
    let found = row_of (HasParent image) 12 at count m.tree.parents place has.parents h in
    (found.0, ap option_flatten found.1, found.2)

-- where the word of the parent is 0 there is none
none_there : (place : ℕ) (image : List ℕ) (m : Message) (row word_there : ℕ) (p : Option Parent) → parent_at m.tree.parents place ≡ p → HasParent image row p →
    word image (row + 2) ≡ word_there → word_there ≡ 0 → IsTop m place
none_there place image m row word_there None e has is none = e
none_there place image m row word_there (Some p) e has is none = absurd (omega (arith, has.signal, is, none))

pub no_parent : (at count place : ℕ) (image : List ℕ) (m : Message) (level : Level) → SignalsAt at count image m → place < count →
    IsLevel image (at + signal_words * place) level → level.parent ≡ 0 → IsTop m place
no_parent at count place image m level has h is none =
    let p = parent_of at count place image m has h in
    none_there place image m (at + signal_words * place) level.parent p.0 p.1 p.2 is.parent none

-- else there is one
pub record HasParentAt (image : List ℕ) (count place : ℕ) (m : Message) (level : Level) : Type 0 where
  pub parent : Parent
  pub is_parent : parent_at m.tree.parents place ≡ Some parent
  pub place_is : parent.signal ≡ level.parent - 1
  pub inside : parent.signal < count
  pub ranges : RangesAt level.ranges_at level.ranges image parent.ranges

parent_there : (at count place : ℕ) (image : List ℕ) (m : Message) (level : Level) (p : Option Parent) → SignalsAt at count image m →
    parent_at m.tree.parents place ≡ p → HasParent image (at + signal_words * place) p → IsLevel image (at + signal_words * place) level → level.parent ≢ 0 →
    HasParentAt image count place m level
parent_there at count place image m level None has e parent is some = absurd (some (sym is.parent ∙ parent))
parent_there at count place image m level (Some p) has e parent is some =
    let R : ℕ → ℕ → Type 0 = λ from n. RangesAt from n image p.ranges in
    let moved = subst (λ (from : ℕ). R from (word image (at + signal_words * place + 4))) is.ranges_at parent.rows in
    record {
      parent = p;
      is_parent = e;
      place_is = omega (arith, parent.signal, is.parent);
      inside = omega (arith, has.decodable.tree.within place p e, has.signals.size);
      ranges = subst (R level.ranges_at) is.ranges moved;
    }

pub parent_known : (at count place : ℕ) (image : List ℕ) (m : Message) (level : Level) → SignalsAt at count image m → place < count →
    IsLevel image (at + signal_words * place) level → level.parent ≢ 0 → HasParentAt image count place m level
parent_known at count place image m level has h is some =
    let p = parent_of at count place image m has h in
    parent_there at count place image m level p.0 has p.1 p.2 is some

pub each_above : (k : Knowledge) (at count place : ℕ) (level : Level) → EachHas k (SignalsAt at count) → place < count →
    Holds k (λ image bench. IsLevel image (at + signal_words * place) level) → level.parent ≢ 0 → EachHas k (SignalAt (at + signal_words * (level.parent - 1)))
each_above k at count place level has h is some image bench f =
    let m = has image bench f in
    let p = parent_known at count place image m.0 level m.1 h (is image bench f) some in
    let s = signal_of at count p.parent.signal image m.0 m.1 p.inside in
    let P : ℕ → Type 0 = λ q. HasDecodable image (at + signal_words * q) s.0 in
    (s.0, subst P p.place_is s.2)

pub each_ranges : (k : Knowledge) (at count place : ℕ) (level : Level) → EachHas k (SignalsAt at count) → place < count →
    Holds k (λ image bench. IsLevel image (at + signal_words * place) level) → level.parent ≢ 0 → EachHas k (RangesAt level.ranges_at level.ranges)
each_ranges k at count place level has h is some image bench f =
    let m = has image bench f in
    let p = parent_known at count place image m.0 level m.1 h (is image bench f) some in
    (p.parent.ranges, p.ranges)

pub parent_inside : (k : Knowledge) (at count place : ℕ) (level : Level) → SomeFits k → EachHas k (SignalsAt at count) → place < count →
    Holds k (λ image bench. IsLevel image (at + signal_words * place) level) → level.parent ≢ 0 → level.parent - 1 < count
parent_inside k at count place level fits has h is some =
    let m = has fits.image fits.bench fits.fits in
    let p = parent_known at count place fits.image m.0 level m.1 h (is fits.image fits.bench fits.fits) some in
    omega (arith, p.inside, p.place_is)

-- ---- whether the parent selects the signal

pub has_shape : (image : List ℕ) (at : ℕ) (level : Level) (s : Signal) → IsLevel image at level → HasSignal image at s → HasShape level.shape s
has_shape image at level s is has = record {
  start = has.start ∙ ap (λ (x : Shape). x.start) is.shape;
  size = has.size ∙ ap (λ (x : Shape). x.size) is.shape;
  order = has.order ∙ ap (λ (x : Shape). x.order) is.shape;
  signed = has.signed ∙ ap (λ (x : Shape). x.signed) is.shape;
}

raw_at : (bytes : List ℕ) (signals : List Signal) (q : ℕ) (s : Signal) → slice_get signals q ≡ Some s →
    option_flatten (slice_get (raw_values bytes signals) q) ≡ raw_value s bytes
raw_at bytes signals q s e =
    ap option_flatten (slice_get-map (λ (x : Signal). raw_value x bytes) signals q ∙ ap (option_map (λ (x : Signal). raw_value x bytes)) e)

-- what the shape above and the ranges say
pub selects_as : (at count place : ℕ) (bytes image : List ℕ) (m : Message) (level above : Level) (answer : Bool) → SignalsAt at count image m →
    (p : HasParentAt image count place m level) → IsLevel image (at + signal_words * (level.parent - 1)) above →
    ((ranges : List Range) → RangesAt level.ranges_at level.ranges image ranges → (s : Signal) → HasShape above.shape s → is_in_ranges ranges (raw_value s bytes) ≡ answer) →
    selects (raw_values bytes m.signals) p.parent ≡ answer
selects_as at count place bytes image m level above answer has p is each =
    let s = signal_of at count p.parent.signal image m has p.inside in
    let P : ℕ → Type 0 = λ q. IsLevel image (at + signal_words * q) above in
    let own : IsLevel image (at + signal_words * p.parent.signal) above = subst P (sym p.place_is) is in
    ap (is_in_ranges p.parent.ranges) (raw_at bytes m.signals p.parent.signal s.0 s.1)
    ∙ each p.parent.ranges p.ranges s.0 (has_shape image (at + signal_words * p.parent.signal) above s.0 own s.2.signal)

pub passed : (at count place : ℕ) (bytes image : List ℕ) (m : Message) (level above : Level) → SignalsAt at count image m →
    (p : HasParentAt image count place m level) → IsLevel image (at + signal_words * (level.parent - 1)) above →
    ((ranges : List Range) → RangesAt level.ranges_at level.ranges image ranges → (s : Signal) → HasShape above.shape s → is_in_ranges ranges (raw_value s bytes) ≡ false) →
    IsPassedOver bytes m place
passed at count place bytes image m level above has p is each =
    record { parent = p.parent; is_parent = p.is_parent; selects_not = selects_as at count place bytes image m level above false has p is each }

pub goes_up : (at count place : ℕ) (bytes image : List ℕ) (m : Message) (level above : Level) → SignalsAt at count image m →
    (p : HasParentAt image count place m level) → IsLevel image (at + signal_words * (level.parent - 1)) above →
    ((ranges : List Range) → RangesAt level.ranges_at level.ranges image ranges → (s : Signal) → HasShape above.shape s → is_in_ranges ranges (raw_value s bytes) ≡ true) →
    IsSelected at bytes image m place (level.parent - 1) above
goes_up at count place bytes image m level above has p is each = record {
  parent = p.parent;
  is_parent = p.is_parent;
  place_is = p.place_is;
  selects_it = selects_as at count place bytes image m level above true has p is each;
  is_level = is;
}

-- ---- the way up

-- after so many steps the walk is at a signal that decides for the first
pub record IsOnWay (bytes : List ℕ) (m : Message) (place steps here : ℕ) : Type 0 where
  pub reached : ancestor (signals_above m.tree.parents) steps place ≡ Some here
  pub same : is_active m.tree.parents (raw_values bytes m.signals) place ≡ is_active_within (most_parents - steps) m.tree.parents (raw_values bytes m.signals) here

pub way_begins : (bytes : List ℕ) (m : Message) (place : ℕ) → ancestor (signals_above m.tree.parents) 0 place ≡ Some place → IsOnWay bytes m place 0 place
way_begins bytes m place e = record { reached = e; same = refl }

pub way_goes_on : (bytes : List ℕ) (m : Message) (place steps here up : ℕ) (p : Parent) → IsOnWay bytes m place steps here → p.signal ≡ up →
    ancestor (signals_above m.tree.parents) (steps + 1) place ≡ Some p.signal →
    is_active_within (most_parents - steps) m.tree.parents (raw_values bytes m.signals) here
    ≡ is_active_within (most_parents - (steps + 1)) m.tree.parents (raw_values bytes m.signals) p.signal →
    IsOnWay bytes m place (steps + 1) up
way_goes_on bytes m place steps here up p way e reached same = record {
  reached = reached ∙ ap Some e;
  same = way.same ∙ same ∙ ap (is_active_within (most_parents - (steps + 1)) m.tree.parents (raw_values bytes m.signals)) e;
}

pub way_ends : (bytes : List ℕ) (m : Message) (place steps here : ℕ) → IsOnWay bytes m place steps here → steps ≡ most_parents →
    ancestor (signals_above m.tree.parents) most_parents place ≡ Some here
way_ends bytes m place steps here way e = ap (λ (n : ℕ). ancestor (signals_above m.tree.parents) n place) (sym e) ∙ way.reached
