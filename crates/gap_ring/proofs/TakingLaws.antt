-- What a take leaves and answers, and what a turn leaves.
use Rattle.std.proofs.Common.{◌≡◌, ◌≢◌, ℕ, ◌+◌, ◌-◌, ◌/◌, ◌%◌, ◌<◌, ◌≤◌, ◌==◌, ◌||◌, ◌&&◌, nat_lt, Bool, true, false, cond, true≢false}
use Rattle.std.proofs.Common.{List, [], ◌∷◌, ◌++◌, length, get_or, filter, All, MatchBool, Option, Some, None, refl, sym, ap, ◌∙◌, subst}
use Rattle.std.proofs.Common.{arith, ⊎_elim, append_assoc, length-append, eq-eqb, ne_eqb, lt-ltb, le-ltb}
use Rattle.std.proofs.lemmas.Bool.{cases_Bool, cases_eq, cond-true, cond-false, MatchBool-at_true, MatchBool-at_false}
use Rattle.std.proofs.lemmas.Nat.{div-mul-add, mod-mul-add}
use Rattle.std.proofs.lemmas.Option.{same_Some}
use Rattle.std.proofs.lemmas.List.{map-append}
use Rattle.std.proofs.lemmas.List.Sums.{fold_push}
use Rattle.std.proofs.lemmas.List.Elements.{All-push, filter-append}
use mathlib.Core.Option.{none}
use Rattle.atomic_table.specs.Table.{step}
use Rattle.bench_model.specs.declared.reading.Missed.{Missed}
use Rattle.bench_model.specs.declared.reading.Item.{Item}
use Rattle.gap_ring.specs.declared.answers.Take.{Take}
use Rattle.gap_ring.specs.declared.answers.Take.TheVariants as take
use Rattle.gap_ring.specs.declared.entries.Offered.{Offered}
use Rattle.gap_ring.specs.declared.entries.Taken as entries
use Rattle.gap_ring.specs.declared.progress.Progress.{Progress}
use Rattle.gap_ring.specs.declared.view.Did.{Did}
use Rattle.gap_ring.specs.declared.view.Did.TheVariants as did
use Rattle.gap_ring.specs.declared.view.GapWords.{GapWords}
use Rattle.gap_ring.specs.declared.view.Taking.{Taking}
use Rattle.gap_ring.specs.declared.view.View.{View}
use Rattle.gap_ring.specs.Offers.{IsAttached, turn_of, trailing, gap_of, put_of, last_version_of, AreOffers}
use Rattle.gap_ring.specs.Turns.{items_taken, starts_turn, from_start, given, AreTaken, next_after, next_of, is_begun, IsGapTo, ending}
use Rattle.gap_ring.specs.Rule.{gap_words_of, most_offers, version_limit, head_word, tail_word, end_word, first_word, last_word, versions_word}
use Rattle.gap_ring.specs.Steps.{Sat, did_take, end_loaded, tail_loaded, item_waits, none_waits, all_taken, saw_tail, saw_gap, gap_word, head_stored, attach_stored, record_number, IsNext, IsAll}
use Rattle.gap_ring.specs.Takes.{TookItem, TakeMade, TurnMade, gap_by}
use Rattle.gap_ring.specs.Ends.{TakerRests}
use Rattle.gap_ring.proofs.PlaceLaws.{filter_none}
use Rattle.gap_ring.proofs.TurnLaws.{unstarted, ended_gap}

abbrev Entry : Type 0
Entry = entries.Taken

-- what is known after an item, and after the end, was found
abbrev took : Taking → Item → (end tail : ℕ) → Taking
took t x end tail = head_stored (length t.taken + 1) (tail_loaded tail (record (end_loaded end t) { hand = Some x }))

abbrev gap_loaded : GapWords → Taking → Taking
gap_loaded w t = did_take (did_take (did_take t (did.Loaded first_word w.first)) (did.Loaded last_word w.last)) (did.Loaded versions_word w.versions)

abbrev found_end : Taking → ℕ → List Offered → Taking
found_end t end known = tail_loaded (length t.taken) (record (end_loaded end t) { done = true; known = known })

three_more : (l : List Did) (a b c : Did) → ((l ++ a ∷ []) ++ b ∷ []) ++ c ∷ [] ≡ l ++ a ∷ b ∷ c ∷ []
three_more l a b c = append_assoc (l ++ a ∷ []) (b ∷ []) (c ∷ []) ∙ append_assoc l (a ∷ []) (b ∷ c ∷ [])

five_more : (l : List Did) (a b c d e : Did) → ((((l ++ a ∷ []) ++ b ∷ []) ++ c ∷ []) ++ d ∷ []) ++ e ∷ [] ≡ l ++ a ∷ b ∷ c ∷ d ∷ e ∷ []
five_more l a b c d e =
    append_assoc (((l ++ a ∷ []) ++ b ∷ []) ++ c ∷ []) (d ∷ []) (e ∷ [])
    ∙ (append_assoc ((l ++ a ∷ []) ++ b ∷ []) (c ∷ []) (d ∷ e ∷ [])
    ∙ (append_assoc (l ++ a ∷ []) (b ∷ []) (c ∷ d ∷ e ∷ [])
    ∙ append_assoc l (a ∷ []) (b ∷ c ∷ d ∷ e ∷ [])))

abbrev in_turn : ℕ → Entry → Bool
in_turn turn t = t.attach == turn

-- in a new turn nothing was given yet
given_anew : (taken : List Entry) (old new : ℕ) → All (λ t. t.attach ≤ old) taken → old < new → given taken new ≡ []
given_anew taken old new low higher =
    ap (λ (l : List Entry). from_start new (items_taken l))
    (filter_none (in_turn new) taken (λ k d below. let t : Entry = get_or taken k d in let a = low k d below in ne_eqb t.attach new (λ e. omega arith)))

pub turned : (c : Progress) (n : ℕ) (v v' : View) → TakerRests c v → n ≡ c.attach + 1 → v' ≡ record v { taking = attach_stored n v.taking }
    → TakerRests (record { head = c.head; attach = n; started = false; next = 0 }) v'
turned c n v v' h is view =
    let at : c.attach ≡ v.taking.attach = h.attach_is in
    let anew : given v.taking.taken n ≡ [] = given_anew v.taking.taken v.taking.attach n h.words_low (omega arith) in
    subst (λ (u : View). TakerRests (record { head = c.head; attach = n; started = false; next = 0 }) u) (sym view) record {
      takes = h.takes;
      empty = h.empty;
      head_is = h.head_is;
      attach_is = refl;
      started_is = ap is_begun (sym anew);
      next_is = ap next_of (sym anew);
      words_low = λ k d below. let a = h.words_low k d below in omega arith;
    }

-- one more item, after a Start of the turn or as one
from_push : (a : ℕ) (xs : List Item) (x : Item) → from_start a (xs ++ x ∷ []) ≡ cond (is_begun (from_start a xs)) (from_start a xs ++ x ∷ []) (cond (starts_turn a x) (x ∷ []) [])
from_push a [] x = refl
from_push a (y ∷ ys) x =
    let rest = from_push a ys x in
    ⊎_elim
    (λ (e : starts_turn a y ≡ true). rw e refl)
    (λ (e : starts_turn a y ≡ false). rw e rest)
    (cases_Bool (starts_turn a y))

given_push : (ts : List Entry) (e : Entry) (a : ℕ) → e.attach ≡ a → given (ts ++ e ∷ []) a ≡ cond (is_begun (given ts a)) (given ts a ++ e.item ∷ []) (cond (starts_turn a e.item) (e.item ∷ []) [])
given_push ts e a is =
    let kept : filter (in_turn a) (e ∷ []) ≡ e ∷ [] = cond-true (e.attach == a) (e ∷ []) [] (eq-eqb e.attach a is) in
    let split : filter (in_turn a) (ts ++ e ∷ []) ≡ filter (in_turn a) ts ++ e ∷ [] = filter-append (in_turn a) ts (e ∷ []) ∙ ap (λ l. filter (in_turn a) ts ++ l) kept in
    ap (λ (l : List Entry). from_start a (items_taken l)) split
    ∙ (ap (from_start a) (map-append (λ (t : Entry). t.item) (filter (in_turn a) ts) (e ∷ []))
    ∙ from_push a (items_taken (filter (in_turn a) ts)) e.item)

begun_push : (xs : List Item) (x : Item) → is_begun (xs ++ x ∷ []) ≡ true
begun_push [] x = refl
begun_push (y ∷ ys) x = refl

not_begun : (xs : List Item) → is_begun xs ≡ false → xs ≡ []
not_begun [] e = refl
not_begun (x ∷ xs) e = absurd (true≢false e)

-- what is given and the progress, after an item
record Goes (g g' : List Item) (c : Progress) (a : ℕ) (x : Item) (r : Bool) : Type 0 where
  pub begun_is : r ≡ is_begun g'
  pub next_now : cond r (next_after c.next x) c.next ≡ next_of g'
  pub at_true : r ≡ true → g' ≡ g ++ x ∷ []
  pub at_false : r ≡ false → g' ≡ []
  pub before : r ≡ false → g ≡ []

goes : (g g' : List Item) (c : Progress) (a : ℕ) (x : Item) (r : Bool) → c.started ≡ is_begun g → c.next ≡ next_of g → r ≡ (c.started || starts_turn a x)
    → g' ≡ cond (is_begun g) (g ++ x ∷ []) (cond (starts_turn a x) (x ∷ []) []) → Goes g g' c a x r
goes g g' c a x r started next is now =
    ⊎_elim
    (λ (b : is_begun g ≡ true).
    let more : g' ≡ g ++ x ∷ [] = now ∙ cond-true (is_begun g) (g ++ x ∷ []) (cond (starts_turn a x) (x ∷ []) []) b in
    let yes : r ≡ true = is ∙ or_left' (started ∙ b) in
    record {
      begun_is = yes ∙ sym (ap is_begun more ∙ begun_push g x);
      next_now = cond-true r (next_after c.next x) c.next yes ∙ (ap (λ (n : ℕ). next_after n x) next ∙ sym (ap next_of more ∙ fold_push next_after 0 g x));
      at_true = λ _. more;
      at_false = λ no. absurd (true≢false (sym yes ∙ no));
      before = λ no. absurd (true≢false (sym yes ∙ no));
    })
    (λ (b : is_begun g ≡ false).
    let none_yet : g ≡ [] = not_begun g b in
    let zero_next : c.next ≡ 0 = next ∙ ap next_of none_yet in
    let now' : g' ≡ cond (starts_turn a x) (x ∷ []) [] = now ∙ cond-false (is_begun g) (g ++ x ∷ []) (cond (starts_turn a x) (x ∷ []) []) b in
    let r_is : r ≡ starts_turn a x = is ∙ ap (λ (s : Bool). s || starts_turn a x) (started ∙ b) in
    ⊎_elim
    (λ (s : starts_turn a x ≡ true).
    let one : g' ≡ x ∷ [] = now' ∙ cond-true (starts_turn a x) (x ∷ []) [] s in
    let yes : r ≡ true = r_is ∙ s in
    record {
      begun_is = yes ∙ ap is_begun (sym one);
      next_now = cond-true r (next_after c.next x) c.next yes ∙ (ap (λ (n : ℕ). next_after n x) zero_next ∙ ap next_of (sym one));
      at_true = λ _. one ∙ ap (λ (l : List Item). l ++ x ∷ []) (sym none_yet);
      at_false = λ no. absurd (true≢false (sym yes ∙ no));
      before = λ no. absurd (true≢false (sym yes ∙ no));
    })
    (λ (s : starts_turn a x ≡ false).
    let empty : g' ≡ [] = now' ∙ cond-false (starts_turn a x) (x ∷ []) [] s in
    let no : r ≡ false = r_is ∙ s in
    record {
      begun_is = no ∙ ap is_begun (sym empty);
      next_now = cond-false r (next_after c.next x) c.next no ∙ (zero_next ∙ ap next_of (sym empty));
      at_true = λ yes. absurd (true≢false (sym yes ∙ no));
      at_false = λ _. empty;
      before = λ _. none_yet;
    })
    (cases_Bool (starts_turn a x)))
    (cases_Bool (is_begun g))
  where
    or_left' : c.started ≡ true → (c.started || starts_turn a x) ≡ true
    or_left' e = ap (λ (s : Bool). s || starts_turn a x) e

-- an item was taken
pub record Took (slots end tail : ℕ) (c : Progress) (x : Item) (m0 m1 m2 m3 : Sat) : Type 0 where
  pub rests : TakerRests c m0.0
  pub first : m1 ≡ (record m0.0 { taking = end_loaded end m0.0.taking }, m0.1)
  pub second : saw_tail (step slots tail_word 0 0 none) m1 tail m2
  pub other : tail ≢ c.head
  pub hand : m2.0.taking.hand ≡ Some x
  pub third : m3 ≡ (record m2.0 { taking = head_stored (c.head + 1) m2.0.taking }, [])

module _ (slots end tail : ℕ) (c : Progress) (x : Item) (m0 m1 m2 m3 : Sat) (h : Took slots end tail c x m0 m1 m2 m3) where
  abbrev t : Taking
  t = m0.0.taking

  abbrev seen_by : Sat
  seen_by = (record m0.0 { taking = end_loaded end t }, m0.1)

  waited : item_waits (step slots tail_word 0 0 none) seen_by tail m2
  waited =
      let test : (tail == length t.taken) ≡ false = let e = h.rests.head_is in let o = h.other in ne_eqb tail (length t.taken) (λ same. o (omega arith)) in
      MatchBool-at_false {b = tail == length t.taken} (MatchBool (end == 0) (none_waits (step slots tail_word 0 0 none) seen_by tail m2) (all_taken (step slots tail_word 0 0 none) seen_by tail m2))
      (item_waits (step slots tail_word 0 0 none) seen_by tail m2) test
      (subst (λ (m : Sat). saw_tail (step slots tail_word 0 0 none) m tail m2) h.first h.second)

  same_item : waited.0 ≡ x
  same_item = same_Some waited.0 x (ap (λ (v : View). v.taking.hand) (sym waited.1) ∙ h.hand)

  pub low_number : record_number x < most_offers
  low_number = subst (λ (y : Item). record_number y < most_offers) same_item waited.3.low

  pub head_low : c.head < tail
  head_low = let e = h.rests.head_is in let w = waited.4 in omega arith

  next_here : IsNext t x
  next_here =
      let n : IsNext (end_loaded end t) x = subst (IsNext (end_loaded end t)) same_item waited.3 in
      record { of_bus = n.of_bus; rises = n.rises; low = n.low }

  view_here : m3.0 ≡ record m0.0 { taking = took t x end tail }
  view_here =
      ap (λ (m : Sat). m.0) h.third
      ∙ (ap (λ (v : View). record v { taking = head_stored (c.head + 1) v.taking }) waited.1
      ∙ (ap (λ (y : Item). record m0.0 { taking = head_stored (c.head + 1) (tail_loaded tail (record (end_loaded end t) { hand = Some y })) }) same_item
      ∙ ap (λ (n : ℕ). record m0.0 { taking = head_stored (n + 1) (tail_loaded tail (record (end_loaded end t) { hand = Some x })) }) h.rests.head_is))

  taken_here : TookItem t m3.0.taking x
  taken_here =
      let is : m3.0.taking ≡ took t x end tail = ap (λ (v : View). v.taking) view_here in
      let head = h.rests.head_is in
      let above = head_low in
      record {
        next = next_here;
        taken_grows = ap (λ (u : Taking). u.taken) is;
        same_turn = record { bus_same = ap (λ (u : Taking). u.bus) is; attach_same = ap (λ (u : Taking). u.attach) is };
        same_end = record { done_same = ap (λ (u : Taking). u.done) is; known_same = ap (λ (u : Taking). u.known) is };
        end = end;
        tail = tail;
        waits = omega arith;
        steps_are =
            ap (λ (u : Taking). u.steps) is
            ∙ three_more t.steps (did.Loaded end_word end) (did.Loaded tail_word tail) (did.Stored head_word (length t.taken + 1));
      }

  abbrev entry : Entry
  entry = record { item = x; attach = t.attach }

  module _ (r : Bool) (is : r ≡ (c.started || starts_turn c.attach x)) where
    goes_here : Goes (given t.taken t.attach) (given (t.taken ++ entry ∷ []) t.attach) c t.attach x r
    goes_here =
        goes (given t.taken t.attach) (given (t.taken ++ entry ∷ []) t.attach) c t.attach x r h.rests.started_is h.rests.next_is
        (is ∙ ap (λ (a : ℕ). c.started || starts_turn a x) h.rests.attach_is) (given_push t.taken entry t.attach refl)

    abbrev after : Progress
    after = record c { head = c.head + 1; started = r; next = cond r (next_after c.next x) c.next }

    pub rests_after : (c' : Progress) → c' ≡ after → TakerRests c' m3.0
    rests_after c' same =
        let goes_on = goes_here in
        let head = h.rests.head_is in
        subst (λ (d : Progress). TakerRests d m3.0) (sym same) (subst (λ (v : View). TakerRests after v) (sym view_here) record {
          takes = h.rests.takes;
          empty = refl;
          head_is = omega (arith, length-append t.taken (entry ∷ []));
          attach_is = h.rests.attach_is;
          started_is = goes_on.begun_is;
          next_is = goes_on.next_now;
          words_low = All-push (λ (s : Entry). s.attach ≤ t.attach) t.taken entry h.rests.words_low (omega arith);
        })

    pub item_made : r ≡ true → TakeMade slots t m3.0.taking (take.Item x)
    item_made is_one = (taken_here, ap (λ (v : View). given v.taking.taken t.attach) view_here ∙ goes_here.at_true is_one)

    pub old_made : r ≡ false → TakeMade slots t m3.0.taking take.Old
    old_made is_none =
        (x, taken_here, goes_here.before is_none, ap (λ (v : View). given v.taking.taken t.attach) view_here ∙ goes_here.at_false is_none)

-- the gap that is answered is that of the end
gap_by_words : (gap : Option Missed) (next number : ℕ) (w : GapWords) → IsGapTo next number gap → w ≡ gap_words_of gap → last_version_of gap < version_limit
    → cond (nat_lt next number) (Some (gap_by next number w)) None ≡ gap
gap_by_words None next number w to words fits = cond-false (nat_lt next number) (Some (gap_by next number w)) None (le-ltb next number (omega arith))
gap_by_words (Some m) next number w to words fits =
    let first : next ≡ m.first = sym to.0 in
    let n1 = to.1 in
    let n2 = to.2 in
    let less : next < number = omega arith in
    let count : number - next ≡ m.count = omega arith in
    let high : w.versions / version_limit ≡ m.first_version = ap (λ (u : GapWords). u.versions / version_limit) words ∙ div-mul-add m.first_version version_limit m.last_version fits in
    let low : w.versions % version_limit ≡ m.last_version = ap (λ (u : GapWords). u.versions % version_limit) words ∙ mod-mul-add m.first_version version_limit m.last_version fits in
    let a : w.first ≡ m.first_micros = ap (λ (u : GapWords). u.first) words in
    let b : w.last ≡ m.last_micros = ap (λ (u : GapWords). u.last) words in
    cond-true (nat_lt next number) (Some (gap_by next number w)) None (lt-ltb next number less)
    ∙ (λ i. Some (record { first = first i; count = count i; first_micros = a i; last_micros = b i; first_version = high i; last_version = low i }))

gap_answer : (slots number : ℕ) (t : Taking) (known : List Offered) (c : Progress) (v : View) (w : GapWords) → v.taking ≡ t → TakerRests c v → IsAttached t.attach
    → AreOffers t.bus slots known → AreTaken t.attach t.taken → All (λ o. o.attach ≤ t.attach) known → items_taken t.taken ≡ put_of known
    → last_version_of (gap_of (trailing known)) < version_limit → length known ≡ number → w ≡ gap_words_of (gap_of (trailing known))
    → cond (c.started && nat_lt c.next number) (Some (gap_by c.next number w)) None ≡ ending t.attach known
gap_answer slots number t known c v w vt rests odd offered words low all fits count is =
    let begun : c.started ≡ is_begun (given t.taken t.attach) = rests.started_is ∙ ap (λ (u : Taking). is_begun (given u.taken u.attach)) vt in
    let next : c.next ≡ next_of (given t.taken t.attach) = rests.next_is ∙ ap (λ (u : Taking). next_of (given u.taken u.attach)) vt in
    ⊎_elim
    (λ (same : turn_of known ≡ t.attach).
    let e = ended_gap t.bus slots t.attach known t.taken offered odd words low all same in
    let gap : ending t.attach known ≡ gap_of (trailing known) = cond-true (turn_of known == t.attach) (gap_of (trailing known)) None (eq-eqb (turn_of known) t.attach same) in
    let to : IsGapTo c.next number (gap_of (trailing known)) =
    subst (λ (m : Option Missed). IsGapTo c.next number m) gap
    (subst (λ (n : ℕ). IsGapTo c.next n (ending t.attach known)) count (subst (λ (n : ℕ). IsGapTo n (length known) (ending t.attach known)) (sym next) e.1)) in
    ap (λ (s : Bool). cond (s && nat_lt c.next number) (Some (gap_by c.next number w)) None) (begun ∙ e.0)
    ∙ (gap_by_words (gap_of (trailing known)) c.next number w to is fits
    ∙ sym gap))
    (λ (other : turn_of known ≢ t.attach).
    let e = unstarted t.bus slots t.attach known t.taken offered odd words low all other in
    ap (λ (s : Bool). cond (s && nat_lt c.next number) (Some (gap_by c.next number w)) None) (begun ∙ ap is_begun e.0)
    ∙ sym e.1)
    (cases_eq (turn_of known) t.attach)

-- nothing waited, and the ring goes on
pub nothing_made : (slots end tail : ℕ) (c : Progress) (m0 m1 m2 : Sat) → TakerRests c m0.0 → m1 ≡ (record m0.0 { taking = end_loaded end m0.0.taking }, m0.1)
    → saw_tail (step slots tail_word 0 0 none) m1 tail m2 → tail ≡ c.head → end ≡ 0 → TakeMade slots m0.0.taking m2.0.taking (take.Empty tail)
nothing_made slots end tail c m0 m1 m2 rests first second same open_ =
    let t : Taking = m0.0.taking in
    let seen : Sat = (record m0.0 { taking = end_loaded end t }, m0.1) in
    let count : tail ≡ length t.taken = same ∙ rests.head_is in
    let inner : MatchBool (end == 0) (none_waits (step slots tail_word 0 0 none) seen tail m2) (all_taken (step slots tail_word 0 0 none) seen tail m2) =
    MatchBool-at_true {b = tail == length t.taken} (MatchBool (end == 0) (none_waits (step slots tail_word 0 0 none) seen tail m2) (all_taken (step slots tail_word 0 0 none) seen tail m2))
    (item_waits (step slots tail_word 0 0 none) seen tail m2) (eq-eqb tail (length t.taken) count)
    (subst (λ (m : Sat). saw_tail (step slots tail_word 0 0 none) m tail m2) first second) in
    let none_here : none_waits (step slots tail_word 0 0 none) seen tail m2 =
    MatchBool-at_true {b = end == 0} (none_waits (step slots tail_word 0 0 none) seen tail m2) (all_taken (step slots tail_word 0 0 none) seen tail m2) (eq-eqb end 0 open_) inner in
    let is : m2.0.taking ≡ tail_loaded tail (end_loaded end t) = ap (λ (v : View). v.taking) none_here.0 in
    record {
      all_taken = count;
      taken_same = ap (λ (u : Taking). u.taken) is;
      same_turn = record { bus_same = ap (λ (u : Taking). u.bus) is; attach_same = ap (λ (u : Taking). u.attach) is };
      same_end = record { done_same = ap (λ (u : Taking). u.done) is; known_same = ap (λ (u : Taking). u.known) is };
      steps_are =
          ap (λ (u : Taking). u.steps) is
          ∙ (append_assoc t.steps (did.Loaded end_word end ∷ []) (did.Loaded tail_word tail ∷ [])
          ∙ ap (λ (n : ℕ). t.steps ++ did.Loaded end_word n ∷ did.Loaded tail_word tail ∷ []) open_);
    }

-- the end was found
pub record Found (slots end tail first last versions : ℕ) (c : Progress) (m0 m1 m2 m3 m4 m5 : Sat) : Type 0 where
  pub rests : TakerRests c m0.0
  pub odd : IsAttached m0.0.taking.attach
  pub end_seen : m1 ≡ (record m0.0 { taking = end_loaded end m0.0.taking }, m0.1)
  pub tail_seen : saw_tail (step slots tail_word 0 0 none) m1 tail m2
  pub same : tail ≡ c.head
  pub ended : end ≢ 0
  pub first_seen : saw_gap (step slots first_word 0 0 none) m2 first m3
  pub last_seen : saw_gap (step slots last_word 0 0 none) m3 last m4
  pub versions_seen : saw_gap (step slots versions_word 0 0 none) m4 versions m5

module _ (slots end tail first last versions : ℕ) (c : Progress) (m0 m1 m2 m3 m4 m5 : Sat) (h : Found slots end tail first last versions c m0 m1 m2 m3 m4 m5) where
  abbrev taken_before : Taking
  taken_before = m0.0.taking

  abbrev loaded : Sat
  loaded = (record m0.0 { taking = end_loaded end taken_before }, m0.1)

  found : all_taken (step slots tail_word 0 0 none) loaded tail m2
  found =
      let here : (tail == length taken_before.taken) ≡ true = eq-eqb tail (length taken_before.taken) (h.same ∙ h.rests.head_is) in
      let inner : MatchBool (end == 0) (none_waits (step slots tail_word 0 0 none) loaded tail m2) (all_taken (step slots tail_word 0 0 none) loaded tail m2) =
      MatchBool-at_true {b = tail == length taken_before.taken} (MatchBool (end == 0) (none_waits (step slots tail_word 0 0 none) loaded tail m2) (all_taken (step slots tail_word 0 0 none) loaded tail m2))
      (item_waits (step slots tail_word 0 0 none) loaded tail m2) here
      (subst (λ (m : Sat). saw_tail (step slots tail_word 0 0 none) m tail m2) h.end_seen h.tail_seen) in
      MatchBool-at_false {b = end == 0} (none_waits (step slots tail_word 0 0 none) loaded tail m2) (all_taken (step slots tail_word 0 0 none) loaded tail m2)
      (ne_eqb end 0 h.ended) inner

  abbrev known : List Offered
  known = found.0

  abbrev at_end : Taking
  at_end = tail_loaded tail (record (end_loaded end taken_before) { done = true; known = known })

  abbrev words_seen : GapWords
  words_seen = record { first = first; last = last; versions = versions }

  second_taking : m2.0.taking ≡ at_end
  second_taking = ap (λ (v : View). v.taking) found.1

  third_taking : m3.0.taking ≡ did_take at_end (did.Loaded first_word first)
  third_taking = ap (λ (v : View). v.taking) h.first_seen.0 ∙ ap (λ (u : Taking). did_take u (did.Loaded first_word first)) second_taking

  fourth_taking : m4.0.taking ≡ did_take (did_take at_end (did.Loaded first_word first)) (did.Loaded last_word last)
  fourth_taking = ap (λ (v : View). v.taking) h.last_seen.0 ∙ ap (λ (u : Taking). did_take u (did.Loaded last_word last)) third_taking

  fifth_taking : m5.0.taking ≡ gap_loaded words_seen at_end
  fifth_taking = ap (λ (v : View). v.taking) h.versions_seen.0 ∙ ap (λ (u : Taking). did_take u (did.Loaded versions_word versions)) fourth_taking

  abbrev gap_words : GapWords
  gap_words = gap_words_of (gap_of (trailing known))

  words_are : words_seen ≡ gap_words
  words_are =
      let a : first ≡ gap_words.first = h.first_seen.2 (ap (λ (u : Taking). u.done) second_taking) ∙ ap (λ (u : Taking). gap_word first_word (gap_words_of (gap_of (trailing u.known)))) second_taking in
      let b : last ≡ gap_words.last = h.last_seen.2 (ap (λ (u : Taking). u.done) third_taking) ∙ ap (λ (u : Taking). gap_word last_word (gap_words_of (gap_of (trailing u.known)))) third_taking in
      let d : versions ≡ gap_words.versions = h.versions_seen.2 (ap (λ (u : Taking). u.done) fourth_taking) ∙ ap (λ (u : Taking). gap_word versions_word (gap_words_of (gap_of (trailing u.known)))) fourth_taking in
      λ i. record { first = a i; last = b i; versions = d i }

  pub end_made : (gap : Option Missed) → gap ≡ cond (c.started && nat_lt c.next (end - 1)) (Some (gap_by c.next (end - 1) words_seen)) None
      → TakeMade slots taken_before m5.0.taking (take.Ended (end - 1) gap)
  end_made gap is =
      let all : IsAll slots (end_loaded end taken_before) known = found.3 in
      let not_zero = h.ended in
      let one_more : end ≡ end - 1 + 1 = omega (arith, all.number) in
      let count : length known ≡ end - 1 = omega (arith, all.number) in
      let answer = gap_answer slots (end - 1) taken_before known c m0.0 words_seen refl h.rests h.odd all.offered all.words all.low all.all_taken all.fits count words_are in
      let kept : taken_before.done ≡ true → known ≡ taken_before.known = found.4 in
      let place : at_end ≡ found_end taken_before (end - 1 + 1) known =
      ap (λ (n : ℕ). tail_loaded n (record (end_loaded end taken_before) { done = true; known = known })) (h.same ∙ h.rests.head_is)
      ∙ ap (λ (n : ℕ). found_end taken_before n known) one_more in
      let now : m5.0.taking ≡ gap_loaded gap_words (found_end taken_before (end - 1 + 1) known) =
      fifth_taking ∙ (ap (gap_loaded words_seen) place ∙ ap (λ (w : GapWords). gap_loaded w (found_end taken_before (end - 1 + 1) known)) words_are) in
      record {
        known = known;
        offered = all.offered;
        all_taken = all.all_taken;
        words = all.words;
        low = all.low;
        number_is = sym count;
        gap_is = is ∙ answer;
        done_now = ap (λ (u : Taking). u.done) now;
        known_now = ap (λ (u : Taking). u.known) now;
        known_before = kept;
        taken_same = ap (λ (u : Taking). u.taken) now;
        same_turn = record { bus_same = ap (λ (u : Taking). u.bus) now; attach_same = ap (λ (u : Taking). u.attach) now };
        steps_are =
            ap (λ (u : Taking). u.steps) now
            ∙ five_more taken_before.steps (did.Loaded end_word (end - 1 + 1)) (did.Loaded tail_word (length taken_before.taken)) (did.Loaded first_word gap_words.first)
            (did.Loaded last_word gap_words.last) (did.Loaded versions_word gap_words.versions);
      }

-- a take leaves the turn as it is
pub turn_kept : (slots : ℕ) (t t' : Taking) (answer : Take) → TakeMade slots t t' answer → t'.attach ≡ t.attach
turn_kept slots t t' (take.Item x) h = h.0.same_turn.attach_same
turn_kept slots t t' take.Old h = h.1.same_turn.attach_same
turn_kept slots t t' (take.Empty tail) h = h.same_turn.attach_same
turn_kept slots t t' (take.Ended number gap) h = h.same_turn.attach_same

pub turn_made : (c : Progress) (n : ℕ) (v v' : View) → TakerRests c v → n ≡ c.attach + 1 → v' ≡ record v { taking = attach_stored n v.taking } → TurnMade v.taking v'.taking
turn_made c n v v' h is view =
    let next : n ≡ v.taking.attach + 1 = let at = h.attach_is in omega arith in
    let t' : v'.taking ≡ attach_stored (v.taking.attach + 1) v.taking = ap (λ (u : View). u.taking) view ∙ ap (λ (k : ℕ). attach_stored k v.taking) next in
    record {
      attach_next = ap (λ (u : Taking). u.attach) t';
      taken_same = ap (λ (u : Taking). u.taken) t';
      same_end = record { done_same = ap (λ (u : Taking). u.done) t'; known_same = ap (λ (u : Taking). u.known) t' };
      bus_same = ap (λ (u : Taking). u.bus) t';
      steps_are = ap (λ (u : Taking). u.steps) t';
      given_anew = not_begun (given v'.taking.taken v'.taking.attach) (sym (turned c n v v' h is view).started_is);
    }
