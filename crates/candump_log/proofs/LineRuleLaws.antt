-- What holds of a reader of lines at each moment, and how one line more is the next of the lines given.
use Rattle.std.proofs.Common.{◌≡◌, ◌⊎◌, ℕ, ◌+◌, ◌-◌, ◌<◌, ◌≤◌, Bool, true, false, cond, leb, List, [], ◌∷◌, ◌++◌, length, take, Option, None, Some, IfSome, refl, sym, ap, subst, ◌∙◌, arith, append_assoc, length-append, inl, inr}
use Rattle.std.proofs.lemmas.List.{append-nil, take_at, length-replicate}
use Rattle.std.proofs.lemmas.Bool.{lt-leb}
use Rattle.std.specs.Prelude.{replicate}
use Rattle.std.specs.Option.{option_map}
use Rattle.std.specs.Io.KnownBytes.{prepend_known, append_known}
use Rattle.byte_forms.specs.Lines.{all_lines}
use Rattle.port_io.specs.OtherSide.{SourceState, OtherSide}
use Rattle.candump_log.specs.declared.log_line.LogLine.{LogLine}
use Rattle.candump_log.specs.declared.log_line.LogLine.TheVariants as line
use Rattle.candump_log.specs.declared.place.Place.{Place}
use Rattle.candump_log.specs.declared.place.Routed.{Routed}
use Rattle.candump_log.specs.Line.{line_limit}
use Rattle.candump_log.specs.LineOf.{read_line, line_of}
use Rattle.candump_log.specs.LogLines.{NoFeed}
use Rattle.candump_log.specs.LinesState.{LinesState, log_limit, source_state, log_by, joined, log_of, fresh}
use Rattle.candump_log.specs.Routing.{place_of}
use Rattle.candump_log.specs.NextLine.{IsPrefix, AsksNothing, Advances}
use Rattle.candump_log.specs.Cut.{cut, Cut}
use Rattle.candump_log.specs.Steps.{route, next_place}
use Rattle.candump_log.specs.LinesView.{is_ready, texts_to, shown, IsAt, Keeps}
use Rattle.candump_log.proofs.CutLaws.{closed_line, all_lines-line, all_lines-last, all_lines-append, NoFeed-append}
use Rattle.candump_log.proofs.RoutingLaws.{place_of-bad, line_of-bad}

-- ---- a reader that was just made

none_yet : (o : Option (List ℕ)) → option_map (texts_to 0) (log_by 0 o) ≡ option_map (λ (b : List ℕ). []) o
unfolding all_lines
none_yet None = refl
none_yet (Some bytes) = refl

pub shown_fresh : (left taken : Option (List ℕ)) (faults : ℕ) (ended : Bool) (other : OtherSide) (held : List ℕ) → held ≡ [] → ended ≡ false →
    shown (source_state left taken faults ended) other held (record { taken = 0; start = 0; given = 0; long = false }) false ≡ fresh (source_state left taken faults ended) other
shown_fresh left taken faults ended other held none open' =
    rw (none, open', none_yet taken) refl

-- ---- a line of which bytes were let go

too_long : (text : List ℕ) → line_limit < length text → None ≡ read_line text
unfolding read_line
too_long text more = let no : leb (length text) 512 ≡ false = lt-leb (length text) 512 more in rw no refl

routed_same : (k l : LogLine) (p q : Option ℕ) → k ≡ l → p ≡ q → ◌≡◌ {A = Routed} (record { line = k; place = p }) (record { line = l; place = q })
routed_same k l p q e f = rw (e, f) refl

route-dropped : (names : List (List ℕ)) (long : Bool) (dropped piece : List ℕ) → (long ≡ false → dropped ≡ []) → (long ≡ true → line_limit < length dropped) →
    route names long piece ≡ route names false (dropped ++ piece)
route-dropped names false dropped piece short over = ap (λ (d : List ℕ). route names false (d ++ piece)) (sym (short refl))
route-dropped names true dropped piece short over =
    let none = too_long (dropped ++ piece) (omega (arith, over refl, length-append dropped piece)) in
    routed_same line.Bad (line_of (dropped ++ piece)) None (place_of names (dropped ++ piece)) (sym (line_of-bad (dropped ++ piece) none)) (sym (place_of-bad names (dropped ++ piece) none))

-- ---- the bytes taken, parted at what is done

parted_line : (a b c : List ℕ) (x : ℕ) (e : List ℕ) → a ++ (b ++ (c ++ x ∷ e)) ≡ (a ++ ((b ++ c) ++ x ∷ [])) ++ e
parted_line a b c x e =
    ap (λ (l : List ℕ). a ++ l) (sym (append_assoc b c (x ∷ e)) ∙ one_more (b ++ c) x e) ∙ sym (append_assoc a ((b ++ c) ++ x ∷ []) e)
  where
    one_more : (c : List ℕ) (x : ℕ) (e : List ℕ) → c ++ x ∷ e ≡ (c ++ x ∷ []) ++ e
    one_more [] x e = refl
    one_more (z ∷ c) x e = ap (λ (l : List ℕ). z ∷ l) (one_more c x e)

pub texts_at : (done rest bytes : List ℕ) (start : ℕ) → bytes ≡ done ++ rest → length done ≡ start → texts_to start bytes ≡ all_lines done
texts_at done rest bytes start e n = ap (λ (b : List ℕ). all_lines (take start b)) e ∙ ap all_lines (take_at done rest start n)

pub is_closed : (done : List ℕ) (ended : Bool) (more : List ℕ) → ((cut done).rest ≡ []) ⊎ ((ended ≡ true) × (more ≡ [])) → 0 < length more → (cut done).rest ≡ []
is_closed done ended more (inl c) some = c
is_closed done ended more (inr e) some = absurd (omega (arith, ap length e.1))

pub was_open : (done : List ℕ) (ended : Bool) (more : List ℕ) → ((cut done).rest ≡ []) ⊎ ((ended ≡ true) × (more ≡ [])) → ended ≡ false → (cut done).rest ≡ []
was_open done ended more (inl c) open' = c
was_open done ended more (inr e) open' = let no' : true ≡ false = sym e.0 ∙ open' in absurd cc

-- ---- one line more

-- the rule at the next line, whose text says this and is the next of the texts
pub record OneMore (names : List (List ℕ)) (o : Option (List ℕ)) (ended : Bool) (place : Place) (piece held : List ℕ) (start : ℕ) : Type 0 where
  pub is_at : IfSome o (IsAt ended (next_place place start) held)
  pub text : List ℕ
  pub texts : option_map (texts_to start) o ≡ option_map (λ texts. texts ++ text ∷ []) (option_map (texts_to place.start) o)
  pub says : route names place.long piece ≡ route names false text

-- more bytes than a line may have
zeros : List ℕ
zeros = replicate 513 0

length-zeros : length zeros ≡ 513
unfolding zeros
length-zeros = length-replicate {A = ℕ} 513 0

-- where the source shows nothing, bytes that were let go are any so many
unknown : Bool → List ℕ → List ℕ
unknown long piece = cond long zeros [] ++ piece

unknown_says : (names : List (List ℕ)) (long : Bool) (piece : List ℕ) → route names long piece ≡ route names false (unknown long piece)
unfolding unknown
unknown_says names long piece = route-dropped names long (cond long zeros []) piece (none_of long) (many_of long)
  where
    none_of : (b : Bool) → b ≡ false → cond b zeros [] ≡ []
    none_of true e = absurd cc
    none_of false e = refl

    many_of : (b : Bool) → b ≡ true → 512 < length (cond b zeros [])
    many_of true e = omega (arith, length-zeros)
    many_of false e = absurd cc

whole_known : (names : List (List ℕ)) (ended : Bool) (place : Place) (was held bytes piece : List ℕ) → IsAt ended place was bytes → NoFeed piece → was ≡ piece ++ 10 ∷ held →
    OneMore names (Some bytes) ended place piece held (place.taken - length held)
whole_known names ended place was held bytes piece s plain e =
    let P : List ℕ → Type 0 = λ w. bytes ≡ s.done ++ (s.dropped ++ w) in
    let p : bytes ≡ s.done ++ (s.dropped ++ (piece ++ 10 ∷ held)) = subst P e s.parted in
    let all = s.dropped ++ piece in
    let d = s.done ++ (all ++ 10 ∷ []) in
    let q : bytes ≡ d ++ held = p ∙ parted_line s.done s.dropped piece 10 held in
    let n : length d ≡ place.taken - length held = omega (arith, ap length q, length-append d held, s.count) in
    let some : 0 < length (s.dropped ++ was) = omega (arith, length-append s.dropped was, ap length e, length-append piece (10 ∷ held)) in
    let closed : (cut s.done).rest ≡ [] = is_closed s.done ended (s.dropped ++ was) s.closed some in
    let plain_all : NoFeed all = NoFeed-append s.dropped piece s.plain plain in
    record {
      is_at = record {
        done = d;
        dropped = [];
        parted = q;
        count = s.count;
        start = n;
        closed = inl (ap (λ (c : Cut). c.rest) (closed_line s.done all closed plain_all));
        plain = tt;
        short = λ _. refl;
        over = λ no'. absurd (cc);
      };
      text = all;
      texts = ap (λ (ts : List (List ℕ)). Some ts)
          (texts_at d held bytes (place.taken - length held) q n
          ∙ all_lines-line s.done all closed plain_all
          ∙ ap (λ (ts : List (List ℕ)). ts ++ all ∷ []) (sym (texts_at s.done (s.dropped ++ was) bytes place.start s.parted s.start)));
      says = route-dropped names place.long s.dropped piece s.short s.over;
    }

pub whole_by : (names : List (List ℕ)) (o : Option (List ℕ)) (ended : Bool) (place : Place) (was held piece : List ℕ) → IfSome o (IsAt ended place was) → NoFeed piece → was ≡ piece ++ 10 ∷ held →
    OneMore names o ended place piece held (place.taken - length held)
whole_by names None ended place was held piece s plain e =
    record { is_at = tt; text = unknown place.long piece; texts = refl; says = unknown_says names place.long piece }
whole_by names (Some bytes) ended place was held piece s plain e = whole_known names ended place was held bytes piece s plain e

some_left : (long : Bool) (dropped was : List ℕ) → (long ≡ true → line_limit < length dropped) → (0 < length was) ⊎ (long ≡ true) → 0 < length (dropped ++ was)
some_left long dropped was over (inl h) = omega (arith, length-append dropped was)
some_left long dropped was over (inr h) = let m = over h in omega (arith, length-append dropped was)

last_known : (names : List (List ℕ)) (ended : Bool) (place : Place) (was bytes : List ℕ) → ended ≡ true → IsAt ended place was bytes → NoFeed was → (0 < length was) ⊎ (place.long ≡ true) →
    OneMore names (Some bytes) ended place was [] place.taken
last_known names ended place was bytes end s plain some =
    let all = s.dropped ++ was in
    let more : 0 < length all = some_left place.long s.dropped was s.over some in
    let closed : (cut s.done).rest ≡ [] = is_closed s.done ended all s.closed more in
    let plain_all : NoFeed all = NoFeed-append s.dropped was s.plain plain in
    record {
      is_at = record {
        done = bytes;
        dropped = [];
        parted = sym (append-nil bytes);
        count = s.count;
        start = s.count;
        closed = inr (end, refl);
        plain = tt;
        short = λ _. refl;
        over = λ no'. absurd (cc);
      };
      text = all;
      texts = ap (λ (ts : List (List ℕ)). Some ts)
          (texts_at bytes [] bytes place.taken (sym (append-nil bytes)) s.count
          ∙ ap all_lines s.parted
          ∙ all_lines-last s.done all closed plain_all more
          ∙ ap (λ (ts : List (List ℕ)). ts ++ all ∷ []) (sym (texts_at s.done all bytes place.start s.parted s.start)));
      says = route-dropped names place.long s.dropped was s.short s.over;
    }

pub last_by : (names : List (List ℕ)) (o : Option (List ℕ)) (ended : Bool) (place : Place) (was : List ℕ) → ended ≡ true → IfSome o (IsAt ended place was) → NoFeed was → (0 < length was) ⊎ (place.long ≡ true) →
    OneMore names o ended place was [] place.taken
last_by names None ended place was end s plain some = record { is_at = tt; text = unknown place.long was; texts = refl; says = unknown_says names place.long was }
last_by names (Some bytes) ended place was end s plain some = last_known names ended place was bytes end s plain some

-- ---- the lines given are the first of the log's

prefix_known : (ended : Bool) (place : Place) (held bytes left : List ℕ) → IsAt ended place held bytes → (ended ≡ true → left ≡ []) → (rest : List (List ℕ)) × (all_lines (bytes ++ left) ≡ texts_to place.start bytes ++ rest)
prefix_known ended place held bytes left s end = by_closed s.closed
  where
    by_closed : ((cut s.done).rest ≡ []) ⊎ ((ended ≡ true) × (s.dropped ++ held ≡ [])) → (rest : List (List ℕ)) × (all_lines (bytes ++ left) ≡ texts_to place.start bytes ++ rest)
    by_closed (inl c) =
        let more = (s.dropped ++ held) ++ left in (
          all_lines more,
          ap (λ (b : List ℕ). all_lines (b ++ left)) s.parted ∙ ap all_lines (append_assoc s.done (s.dropped ++ held) left) ∙ all_lines-append s.done more c
              ∙ ap (λ (ts : List (List ℕ)). ts ++ all_lines more) (sym (texts_at s.done (s.dropped ++ held) bytes place.start s.parted s.start)),
        )
    by_closed (inr e) =
        let none : bytes ≡ s.done = s.parted ∙ ap (λ (l : List ℕ). s.done ++ l) e.1 ∙ append-nil s.done in (
          [],
          ap (λ (l : List ℕ). all_lines (bytes ++ l)) (end e.0) ∙ ap all_lines (append-nil bytes ∙ none)
              ∙ sym (texts_at s.done (s.dropped ++ held) bytes place.start s.parted s.start) ∙ sym (append-nil (texts_to place.start bytes)),
        )

prefix_by : (o left : Option (List ℕ)) (ended : Bool) (place : Place) (held : List ℕ) → IfSome o (IsAt ended place held) → (ended ≡ true → IfSome left (λ l. l ≡ [])) →
    IsPrefix (option_map (texts_to place.start) o) (joined o left)
prefix_by None left ended place held s end = tt
prefix_by (Some bytes) None ended place held s end = tt
prefix_by (Some bytes) (Some left) ended place held s end = prefix_known ended place held bytes left s end

-- of a reader that keeps the rule, also between two calls
pub shown_prefix : (src : SourceState) (other : OtherSide) (held : List ℕ) (place : Place) (failed : Bool) (s : LinesState) → shown src other held place failed ≡ s → Keeps src held place → IsPrefix s.texts (log_of s)
shown_prefix src other held place failed s is k =
    let P : LinesState → Type 0 = λ s. IsPrefix s.texts (log_of s) in
    subst P is (prefix_by (log_by place.taken src.taken) src.left src.ended place held k.is_at k.end)

-- the bytes taken are as many as are counted

counted_by : (o : Option (List ℕ)) (ended : Bool) (place : Place) (held : List ℕ) → IfSome o (IsAt ended place held) → IfSome o (λ bytes. length bytes ≡ place.taken)
counted_by None ended place held s = tt
counted_by (Some bytes) ended place held s = s.count

-- ---- since a call began

pub record Went (start : LinesState) (src : SourceState) (other : OtherSide) (taken : ℕ) : Type 0 where
  pub bytes : List ℕ
  pub left : start.source.left ≡ prepend_known bytes src.left
  pub given_by : src.taken ≡ append_known start.source.taken bytes
  pub count : taken ≡ start.taken + length bytes
  pub log : joined (log_by taken src.taken) src.left ≡ log_of start
  pub other_is : other ≡ start.other
  pub later : start.source.read_faults ≤ src.read_faults

pub advances : (start : LinesState) (src : SourceState) (other : OtherSide) (held : List ℕ) (place : Place) (failed : Bool) → Went start src other place.taken → (AsksNothing start → (src ≡ start.source) × (place.taken ≡ start.taken)) → Keeps src held place →
    Advances start (shown src other held place failed)
advances start src other held place failed w unasked k =
    record {
      took = record { bytes = w.bytes; left = w.left; taken = w.given_by; count = w.count };
      log = w.log;
      other = w.other_is;
      faults = w.later;
      unasked = λ nothing. (unasked nothing).0;
      still = λ nothing. (unasked nothing).1;
      given = omega (arith, k.numbers.given, k.numbers.behind);
      limit = k.numbers.limit;
      counted = counted_by (log_by place.taken src.taken) src.ended place held k.is_at;
      prefix = prefix_by (log_by place.taken src.taken) src.left src.ended place held k.is_at k.end;
    }

-- nothing was asked yet, or the source was asked since no line was ready
abbrev pub Asked : LinesState → SourceState → List ℕ → Place → Type 0
Asked start src held place =
    ((src ≡ start.source) × (place.taken ≡ start.taken) × (is_ready src.ended held place.long ≡ start.ready))
    ⊎ ((start.ready ≡ false) × (start.source.ended ≡ false) × (start.taken < log_limit) × ((start.taken < place.taken) ⊎ (src.ended ≡ true)))

-- the rule holds, and no line was given yet
pub record Goes (start : LinesState) (src : SourceState) (other : OtherSide) (held : List ℕ) (place : Place) : Type 0 where
  pub keeps : Keeps src held place
  pub texts : option_map (texts_to place.start) (log_by place.taken src.taken) ≡ start.texts
  pub given : place.given ≡ start.given
  pub went : Went start src other place.taken
  pub asked : Asked start src held place

pub no_ask : (start : LinesState) → start.ready ≡ false → start.source.ended ≡ false → start.taken < log_limit → AsksNothing start → ⊥
no_ask start ready open' below (inl r) = cc
no_ask start ready open' below (inr (inl e)) = cc
no_ask start ready open' below (inr (inr l)) = omega (arith, l)

pub unasked_by : (start : LinesState) (src : SourceState) (held : List ℕ) (place : Place) → Asked start src held place → AsksNothing start → (src ≡ start.source) × (place.taken ≡ start.taken)
unasked_by start src held place (inl same) nothing = (same.0, same.1)
unasked_by start src held place (inr did) nothing = absurd (no_ask start did.0 did.1 did.2 nothing)
