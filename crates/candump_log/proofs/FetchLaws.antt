-- A reader that lets bytes go, asks its source or stops keeps its rule and the lines given.
use Rattle.std.proofs.Common.{◌≡◌, ◌⊎◌, ◌↔◌, ℕ, zero, suc, ◌+◌, ◌-◌, ◌<◌, ◌≤◌, Bool, true, false, cond, List, [], ◌++◌, length, drop, Option, None, Some, IfSome, Err, refl, sym, ap, subst, ◌∙◌, arith, append_assoc, length-append, inl, inr}
use Rattle.std.proofs.lemmas.List.{append-nil, take-append-le, nil_from_length, drop-append-le}
use Rattle.std.proofs.lemmas.Bool.{cases_Bool, eqb-true, eqb-false}
use Rattle.std.specs.Prelude.{◌==◌}
use Rattle.std.specs.Option.{option_map}
use Rattle.std.specs.Io.KnownBytes.{prepend_known, append_known}
use Rattle.byte_forms.specs.Lines.{all_lines}
use Rattle.port_io.specs.OtherSide.{SourceState, OtherSide}
use Rattle.candump_log.specs.declared.place.Place.{Place}
use Rattle.candump_log.specs.declared.place.LinesRefused.{LinesRefused}
use Rattle.candump_log.specs.declared.place.LinesRefused.TheVariants as refused
use Rattle.candump_log.specs.Line.{line_limit}
use Rattle.candump_log.specs.LogLines.{whole_lines, NoFeed}
use Rattle.candump_log.specs.LinesState.{LinesState, log_limit, last_bytes, log_by, joined, log_of}
use Rattle.candump_log.specs.NextLine.{GivesNone}
use Rattle.candump_log.specs.Steps.{IsInLog, unsaid, work, long_place, LetsGo, Reads, further, Fetches, StopsFetching}
use Rattle.candump_log.specs.LinesView.{is_ready, texts_to, shown, IsAt, Keeps}
use Rattle.candump_log.proofs.CutLaws.{whole_lines-plain, NoFeed-append, has_feed-none}
use Rattle.candump_log.proofs.LineRuleLaws.{texts_at, is_closed, was_open, Went, advances, Asked, Goes, no_ask, unasked_by}
use Rattle.candump_log.proofs.GivenLineLaws.{Ends, was_not_ready}

-- ---- bytes let go

not_ready_open : (ended : Bool) (held : List ℕ) (long : Bool) → ended ≡ false → NoFeed held → is_ready ended held long ≡ false
not_ready_open ended held long open' plain = let none = has_feed-none held plain in rw (none, open') refl

long_known : (ended : Bool) (place : Place) (was bytes : List ℕ) → IsAt ended place was bytes → NoFeed was → line_limit < length was → IsAt ended (long_place place) [] bytes
long_known ended place was bytes s plain more = record {
  done = s.done;
  dropped = s.dropped ++ was;
  parted = s.parted ∙ ap (λ (l : List ℕ). s.done ++ l) (sym (append-nil (s.dropped ++ was)));
  count = s.count;
  start = s.start;
  closed = inl (is_closed s.done ended (s.dropped ++ was) s.closed (omega (arith, length-append s.dropped was)));
  plain = NoFeed-append s.dropped was s.plain plain;
  short = λ no'. absurd (cc);
  over = λ _. omega (arith, length-append s.dropped was);
}

long_by : (o : Option (List ℕ)) (ended : Bool) (place : Place) (was : List ℕ) → IfSome o (IsAt ended place was) → NoFeed was → line_limit < length was → IfSome o (IsAt ended (long_place place) [])
long_by None ended place was s plain more = tt
long_by (Some bytes) ended place was s plain more = long_known ended place was bytes s plain more

long_asked : (start : LinesState) (src : SourceState) (was : List ℕ) (place : Place) → src.ended ≡ false → NoFeed was → Asked start src was place → Asked start src [] (long_place place)
long_asked start src was place open' plain (inl same) =
    inl (same.0, same.1, not_ready_open src.ended [] true open' tt ∙ sym (not_ready_open src.ended was place.long open' plain) ∙ same.2)
long_asked start src was place open' plain (inr did) = inr did

pub lets_go : (start : LinesState) (src : SourceState) (other : OtherSide) (was held : List ℕ) (place now : Place) → Goes start src other was place → src.ended ≡ false → NoFeed was → LetsGo was place held now →
    Goes start src other held now × NoFeed held × (length held ≤ line_limit)
lets_go start src other was held place now g open' plain (inl e) =
    let P : List ℕ → Type 0 = λ h. Goes start src other h now × NoFeed h × (length h ≤ line_limit) in
    let Q : Place → Type 0 = λ p. Goes start src other was p × NoFeed was × (length was ≤ line_limit) in
    subst P (sym e.1) (subst Q (sym e.2) (g, plain, e.0))
lets_go start src other was held place now g open' plain (inr e) =
    let n = g.keeps.numbers in
    let P : List ℕ → Type 0 = λ h. Goes start src other h now × NoFeed h × (length h ≤ line_limit) in
    let Q : Place → Type 0 = λ p. Goes start src other [] p × NoFeed [] × (0 ≤ line_limit) in
    let numbers : IsInLog (long_place place) [] = record { limit = n.limit; given = n.given; behind = omega (arith, n.behind); long = λ _. omega (arith, n.behind, e.0) } in
    let keeps : Keeps src [] (long_place place) = record {
      numbers = numbers;
      within = g.keeps.within;
      is_at = long_by (log_by place.taken src.taken) src.ended place was g.keeps.is_at plain e.0;
      end = g.keeps.end;
    } in
    subst P (sym e.1) (subst Q (sym e.2) (
      record { keeps = keeps; texts = g.texts; given = g.given; went = g.went; asked = long_asked start src was place open' plain g.asked },
      tt,
      omega arith,
    ))

-- ---- bytes fetched

last_bytes-more : (n : ℕ) (bytes more : List ℕ) → n ≤ length bytes → last_bytes (n + length more) (bytes ++ more) ≡ last_bytes n bytes ++ more
last_bytes-more n bytes more within =
    let e : length (bytes ++ more) - (n + length more) ≡ length bytes - n = omega (arith, length-append bytes more) in
    ap (λ (k : ℕ). drop k (bytes ++ more)) e ∙ drop-append-le (length bytes - n) bytes more (omega arith)

log_by-more : (n : ℕ) (taken : Option (List ℕ)) (more : List ℕ) → IfSome taken (λ bytes. n ≤ length bytes) → log_by (n + length more) (append_known taken more) ≡ append_known (log_by n taken) more
log_by-more n None more within = refl
log_by-more n (Some bytes) more within = ap (λ (l : List ℕ). Some l) (last_bytes-more n bytes more within)

joined-more : (log left : Option (List ℕ)) (more : List ℕ) → joined (append_known log more) left ≡ joined log (prepend_known more left)
joined-more None left more = refl
joined-more (Some bytes) None more = refl
joined-more (Some bytes) (Some left) more = ap (λ (l : List ℕ). Some l) (append_assoc bytes more left)

within-more : (n : ℕ) (taken : Option (List ℕ)) (more : List ℕ) → IfSome taken (λ bytes. n ≤ length bytes) → IfSome (append_known taken more) (λ bytes. n + length more ≤ length bytes)
within-more n None more within = tt
within-more n (Some bytes) more within = omega (arith, within, length-append bytes more)

fetched_parted : (a b c d : List ℕ) → (a ++ (b ++ c)) ++ d ≡ a ++ (b ++ (c ++ d))
fetched_parted a b c d = append_assoc a (b ++ c) d ∙ ap (λ (l : List ℕ). a ++ l) (append_assoc b c d)

fetched_known : (was_ended ended : Bool) (place : Place) (was bytes more : List ℕ) → was_ended ≡ false → IsAt was_ended place was bytes →
    IsAt ended (further place (length more)) (was ++ more) (bytes ++ more) × (texts_to place.start (bytes ++ more) ≡ texts_to place.start bytes)
fetched_known was_ended ended place was bytes more open' s =
    let within : place.start ≤ length bytes = omega (arith, s.start, ap length s.parted, length-append s.done (s.dropped ++ was)) in (
      record {
        done = s.done;
        dropped = s.dropped;
        parted = ap (λ (b : List ℕ). b ++ more) s.parted ∙ fetched_parted s.done s.dropped was more;
        count = omega (arith, s.count, length-append bytes more);
        start = s.start;
        closed = inl (was_open s.done was_ended (s.dropped ++ was) s.closed open');
        plain = s.plain;
        short = s.short;
        over = s.over;
      },
      ap all_lines (take-append-le place.start bytes more within),
    )

fetched_by : (o : Option (List ℕ)) (was_ended ended : Bool) (place : Place) (was more : List ℕ) → was_ended ≡ false → IfSome o (IsAt was_ended place was) →
    IfSome (append_known o more) (IsAt ended (further place (length more)) (was ++ more)) × (option_map (texts_to place.start) (append_known o more) ≡ option_map (texts_to place.start) o)
fetched_by None was_ended ended place was more open' s = (tt, refl)
fetched_by (Some bytes) was_ended ended place was more open' s = let r = fetched_known was_ended ended place was bytes more open' s in (r.0, ap (λ (ts : List (List ℕ)). Some ts) r.1)

-- the end was said at a read of none, and nothing is left then
said : (n : ℕ) (was now' : Bool) → was ≡ false → now' ≡ cond (n == 0) true was → (n == 0) ≡ now'
said n was now' open' is =
    elim (cases_Bool (n == 0)) [
      | inl none ↦ let e : now' ≡ true = is ∙ ap (λ (b : Bool). cond b true was) none in none ∙ sym e
      | inr some ↦ let e : now' ≡ was = is ∙ ap (λ (b : Bool). cond b true was) some in some ∙ sym (e ∙ open')
    ]

none_left : (n : ℕ) (before left : Option (List ℕ)) (bytes : List ℕ) → (n == 0) ≡ true → length bytes ≡ n → before ≡ prepend_known bytes left → IfSome before (λ b. (n ≡ 0) ↔ (b ≡ [])) → IfSome left (λ l. l ≡ [])
none_left n before None bytes zero' count is end = tt
none_left n before (Some l) bytes zero' count is end =
    let z : n ≡ 0 = eqb-true n 0 zero' in
    let none : bytes ≡ [] = nil_from_length bytes (count ∙ z) in
    let P : Option (List ℕ) → Type 0 = λ b. IfSome b (λ x. (n ≡ 0) ↔ (x ≡ [])) in
    let whole : bytes ++ l ≡ [] = (subst P is end).0 z in
    ap (λ (b : List ℕ). b ++ l) (sym none) ∙ whole

abbrev Progress : LinesState → SourceState → Place → Type 0
Progress start src place = (start.taken < place.taken) ⊎ (src.ended ≡ true)

later_asked : (start : LinesState) (src src' : SourceState) (was : List ℕ) (place : Place) (n : ℕ) → src.ended ≡ false → NoFeed was → place.taken < log_limit → (n == 0) ≡ src'.ended → start.taken ≤ place.taken → Asked start src was place →
    (start.ready ≡ false) × (start.source.ended ≡ false) × (start.taken < log_limit) × Progress start src' (further place n)
later_asked start src src' was place n open' plain room said' grew asked =
    (was_not_ready start src was place (not_ready_open src.ended was place.long open' plain) asked, still_open asked, omega arith, progress)
  where
    still_open : Asked start src was place → start.source.ended ≡ false
    still_open (inl same) = ap (λ (s : SourceState). s.ended) (sym same.0) ∙ open'
    still_open (inr did) = did.1

    progress : Progress start src' (further place n)
    progress =
        elim (cases_Bool (n == 0)) [
          | inl none ↦ inr (sym said' ∙ none)
          | inr some ↦ inl (omega (arith, eqb-false n 0 some))
        ]

reads_went : (start : LinesState) (src src' : SourceState) (other other' : OtherSide) (was held : List ℕ) (place : Place) (n : ℕ) → Went start src other place.taken → IfSome src.taken (λ bytes. place.taken ≤ length bytes) → Reads src was n src' held → other' ≡ other →
    Went start src' other' (place.taken + n)
reads_went start src src' other other' was held place n w within r o =
    let count : place.taken + n ≡ place.taken + length r.bytes = ap (λ (k : ℕ). place.taken + k) (sym r.count) in
    let more = log_by-more place.taken src.taken r.bytes within in
    record {
      bytes = w.bytes ++ r.bytes;
      left = w.left ∙ ap (prepend_known w.bytes) r.left ∙ prepended w.bytes r.bytes src'.left;
      given_by = r.taken ∙ ap (λ (t : Option (List ℕ)). append_known t r.bytes) w.given_by ∙ appended start.source.taken w.bytes r.bytes;
      count = omega (arith, w.count, r.count, length-append w.bytes r.bytes);
      log = ap (λ (k : ℕ). joined (log_by k src'.taken) src'.left) count ∙ ap (λ (t : Option (List ℕ)). joined (log_by (place.taken + length r.bytes) t) src'.left) r.taken
          ∙ ap (λ (t : Option (List ℕ)). joined t src'.left) more ∙ joined-more (log_by place.taken src.taken) src'.left r.bytes
          ∙ ap (λ (t : Option (List ℕ)). joined (log_by place.taken src.taken) t) (sym r.left) ∙ w.log;
      other_is = o ∙ w.other_is;
      later = omega (arith, w.later, r.later);
    }
  where
    prepended : (a b : List ℕ) (o : Option (List ℕ)) → prepend_known a (prepend_known b o) ≡ prepend_known (a ++ b) o
    prepended a b None = refl
    prepended a b (Some l) = ap (λ (x : List ℕ). Some x) (sym (append_assoc a b l))

    appended : (o : Option (List ℕ)) (a b : List ℕ) → append_known (append_known o a) b ≡ append_known o (a ++ b)
    appended None a b = refl
    appended (Some l) a b = ap (λ (x : List ℕ). Some x) (append_assoc l a b)

pub fetches : (start : LinesState) (src src' : SourceState) (other other' : OtherSide) (was held : List ℕ) (place now : Place) (ended : Bool) → Goes start src other was place → src.ended ≡ false → NoFeed was →
    Fetches src was place ended src' held now → other' ≡ other → Goes start src' other' held now × (ended ≡ src'.ended)
fetches start src src' other other' was held place now ended g open' plain f o =
    let r = f.reads in
    let n = g.keeps.numbers in
    let said' : (f.n == 0) ≡ src'.ended = said f.n src.ended src'.ended open' r.ended in
    let t = fetched_by (log_by place.taken src.taken) src.ended src'.ended place was r.bytes open' g.keeps.is_at in
    let more = log_by-more place.taken src.taken r.bytes g.keeps.within in
    let l = length-append was r.bytes in
    let grew : start.taken ≤ place.taken = omega (arith, g.went.count) in
    let N : ℕ → Type 0 = λ k. IfSome (log_by (place.taken + k) src'.taken) (IsAt src'.ended (further place k) (was ++ r.bytes)) × (option_map (texts_to place.start) (log_by (place.taken + k) src'.taken) ≡ option_map (texts_to place.start) (log_by place.taken src.taken)) in
    let T : Option (List ℕ) → Type 0 = λ x. IfSome x (IsAt src'.ended (further place (length r.bytes)) (was ++ r.bytes)) × (option_map (texts_to place.start) x ≡ option_map (texts_to place.start) (log_by place.taken src.taken)) in
    let log_is : log_by (place.taken + length r.bytes) src'.taken ≡ append_known (log_by place.taken src.taken) r.bytes = ap (log_by (place.taken + length r.bytes)) r.taken ∙ more in
    let known' = subst N r.count (subst T (sym log_is) t) in
    let W : ℕ → Type 0 = λ k. IfSome src'.taken (λ bytes. place.taken + k ≤ length bytes) in
    let X : Option (List ℕ) → Type 0 = λ x. IfSome x (λ bytes. place.taken + length r.bytes ≤ length bytes) in
    let within = subst W r.count (subst X (sym r.taken) (within-more place.taken src.taken r.bytes g.keeps.within)) in
    let keeps : Keeps src' (was ++ r.bytes) (further place f.n) = record {
      numbers = record { limit = f.limit; given = n.given; behind = omega (arith, n.behind, r.count); long = λ h. let b = n.long h in omega (arith, r.count) };
      within = within;
      is_at = known'.0;
      end = λ e. none_left f.n src.left src'.left r.bytes (said' ∙ e) r.count r.left r.end;
    } in
    let P : List ℕ → Type 0 = λ h. Goes start src' other' h now in
    let Q : Place → Type 0 = λ p. Goes start src' other' (was ++ r.bytes) p in (
      subst P (sym r.held_is) (subst Q (sym f.now_is) (record {
        keeps = keeps;
        texts = known'.1 ∙ g.texts;
        given = g.given;
        went = reads_went start src src' other other' was held place f.n g.went g.keeps.within r o;
        asked = inr (later_asked start src src' was place f.n open' plain f.room said' grew g.asked);
      })),
      f.ended_is ∙ said',
    )

-- ---- a fault

stopped_known : (ended : Bool) (place : Place) (was bytes : List ℕ) → ended ≡ false → IsAt ended place was bytes → NoFeed was → texts_to place.start bytes ≡ whole_lines bytes
stopped_known ended place was bytes open' s plain =
    texts_at s.done (s.dropped ++ was) bytes place.start s.parted s.start
    ∙ sym (whole_lines-plain s.done (s.dropped ++ was) (was_open s.done ended (s.dropped ++ was) s.closed open') (NoFeed-append s.dropped was s.plain plain))
    ∙ ap whole_lines (sym s.parted)

stopped_by : (o : Option (List ℕ)) (ended : Bool) (place : Place) (was : List ℕ) → ended ≡ false → IfSome o (IsAt ended place was) → NoFeed was → option_map (texts_to place.start) o ≡ option_map whole_lines o
stopped_by None ended place was open' s plain = refl
stopped_by (Some bytes) ended place was open' s plain = ap (λ (ts : List (List ℕ)). Some ts) (stopped_known ended place was bytes open' s plain)

-- a source that shows the same, but for its count
failed_keeps : (src src' : SourceState) (was : List ℕ) (place : Place) → Keeps src was place → src'.left ≡ src.left → src'.taken ≡ src.taken → src'.ended ≡ src.ended → Keeps src' was place
failed_keeps src src' was place k left taken ended =
    let T : Option (List ℕ) → Type 0 = λ t. IfSome t (λ bytes. place.taken ≤ length bytes) × IfSome (log_by place.taken t) (IsAt src'.ended place was) in
    let E : Bool → Type 0 = λ b. IfSome (log_by place.taken src.taken) (IsAt b place was) in
    let L : Option (List ℕ) → Type 0 = λ l. IfSome l (λ x. x ≡ []) in
    let t = subst T (sym taken) (k.within, subst E (sym ended) k.is_at) in
    record { numbers = k.numbers; within = t.0; is_at = t.1; end = λ e. subst L (sym left) (k.end (sym ended ∙ e)) }

failed_went : (start : LinesState) (src src' : SourceState) (other other' : OtherSide) (taken : ℕ) → Went start src other taken → src'.left ≡ src.left → src'.taken ≡ src.taken → src.read_faults ≤ src'.read_faults → other' ≡ other → Went start src' other' taken
failed_went start src src' other other' taken w left given_by later o = record {
  bytes = w.bytes;
  left = w.left ∙ ap (prepend_known w.bytes) (sym left);
  given_by = given_by ∙ w.given_by;
  count = w.count;
  log = ap (λ (t : Option (List ℕ)). joined (log_by taken t) src'.left) given_by ∙ ap (λ (l : Option (List ℕ)). joined (log_by taken src.taken) l) left ∙ w.log;
  other_is = o ∙ w.other_is;
  later = omega (arith, w.later, later);
}

no_line : (start : LinesState) (src src' : SourceState) (other' : OtherSide) (was : List ℕ) (place : Place) → option_map (texts_to place.start) (log_by place.taken src.taken) ≡ start.texts → place.given ≡ start.given →
    Asked start src was place → src.ended ≡ false → NoFeed was → src'.taken ≡ src.taken → src'.ended ≡ src.ended → GivesNone start (shown src' other' was place true)
no_line start src src' other' was place texts given asked open' plain taken ended = record {
  texts = ap (λ (t : Option (List ℕ)). option_map (texts_to place.start) (log_by place.taken t)) taken ∙ texts;
  given = given;
  was_not_ready = was_not_ready start src was place (not_ready_open src.ended was place.long open' plain) asked;
  is_not_ready = not_ready_open src'.ended was place.long (ended ∙ open') plain;
}

pub stops : (names : List (List ℕ)) (start : LinesState) (src src' : SourceState) (other other' : OtherSide) (was held : List ℕ) (place now : Place) (why : LinesRefused) → Goes start src other was place → src.ended ≡ false → NoFeed was →
    StopsFetching why src was place src' held → now ≡ place → other' ≡ other → Ends names start (Err why) src' other' held now true × (src'.ended ≡ src.ended)
stops names start src src' other other' was held place now refused.ReadFault g open' plain s p o =
    let f = s.0 in
    let grew : start.taken ≤ place.taken = omega (arith, g.went.count) in
    let keeps = failed_keeps src src' was place g.keeps f.left f.taken f.ended in
    let went = failed_went start src src' other other' place.taken g.went f.left f.taken f.later o in
    let first = was_not_ready start src was place (not_ready_open src.ended was place.long open' plain) g.asked in
    let P : List ℕ → Type 0 = λ h. Ends names start (Err refused.ReadFault) src' other' h now true in
    let Q : Place → Type 0 = λ x. Ends names start (Err refused.ReadFault) src' other' was x true in (
      subst P (sym f.held_is) (subst Q (sym p) (
        keeps,
        advances start src' other' was place true went (λ nothing. absurd (no_ask start first (still_open g.asked) (omega (arith, s.1)) nothing)) keeps,
        (
          no_line start src src' other' was place g.texts g.given g.asked open' plain f.taken f.ended,
          record { ended = f.ended ∙ open'; whole = stopped_by (log_by place.taken src'.taken) src'.ended place was (f.ended ∙ open') keeps.is_at plain },
          (omega (arith, g.went.later, f.later, f.rose), s.1),
        ),
      )),
      f.ended,
    )
  where
    still_open : Asked start src was place → start.source.ended ≡ false
    still_open (inl same) = ap (λ (s : SourceState). s.ended) (sym same.0) ∙ open'
    still_open (inr did) = did.1
stops names start src src' other other' was held place now refused.TooLong g open' plain s p o =
    let e = s.0 in
    let left : src'.left ≡ src.left = ap (λ (x : SourceState). x.left) e in
    let taken : src'.taken ≡ src.taken = ap (λ (x : SourceState). x.taken) e in
    let ended : src'.ended ≡ src.ended = ap (λ (x : SourceState). x.ended) e in
    let later : src.read_faults ≤ src'.read_faults = omega (arith, ap (λ (x : SourceState). x.read_faults) e) in
    let keeps = failed_keeps src src' was place g.keeps left taken ended in
    let went = failed_went start src src' other other' place.taken g.went left taken later o in
    let P : List ℕ → Type 0 = λ h. Ends names start (Err refused.TooLong) src' other' h now true in
    let Q : Place → Type 0 = λ x. Ends names start (Err refused.TooLong) src' other' was x true in (
      subst P (sym s.1) (subst Q (sym p) (
        keeps,
        advances start src' other' was place true went (λ nothing. let same = unasked_by start src was place g.asked nothing in (e ∙ same.0, same.1)) keeps,
        (
          no_line start src src' other' was place g.texts g.given g.asked open' plain taken ended,
          record { ended = ended ∙ open'; whole = stopped_by (log_by place.taken src'.taken) src'.ended place was (ended ∙ open') keeps.is_at plain },
          s.2,
        ),
      )),
      ended,
    )

-- ---- the work that is left

unsaid_le : (b : Bool) → unsaid b ≤ 1
unsaid_le true = omega arith
unsaid_le false = omega arith

pub works : (place now : Place) (n : ℕ) (ended : Bool) → now ≡ further place n → place.taken + n ≤ log_limit → ended ≡ (n == 0) → work now ended < work place false
works place now n ended is l e =
    let P : Place → Type 0 = λ p. work p ended < work place false in
    let Q : Bool → Type 0 = λ b. work (further place n) b < work place false in
    subst P (sym is) (subst Q (sym e) (by_count n l))
  where
    by_count : (n : ℕ) → place.taken + n ≤ log_limit → work (further place n) (n == 0) < work place false
    by_count zero l = omega arith
    by_count (suc n) l = let u = unsaid_le (suc n == 0) in omega arith

-- ---- a call begins

within_same : (start : LinesState) (src : SourceState) → src ≡ start.source → (n : ℕ) → n ≡ start.taken → joined (log_by n src.taken) src.left ≡ log_of start
within_same start src e n f =
    ap (λ (s : SourceState). joined (log_by n s.taken) s.left) e ∙ ap (λ (k : ℕ). joined (log_by k start.source.taken) start.source.left) f

nothing_left : (o : Option (List ℕ)) → o ≡ prepend_known [] o
nothing_left None = refl
nothing_left (Some l) = refl

nothing_taken : (o : Option (List ℕ)) → o ≡ append_known o []
nothing_taken None = refl
nothing_taken (Some l) = ap (λ (x : List ℕ). Some x) (sym (append-nil l))

pub begins : (start : LinesState) (src : SourceState) (other : OtherSide) (held : List ℕ) (place : Place) (failed : Bool) → Keeps src held place → shown src other held place failed ≡ start → Goes start src other held place
begins start src other held place failed k e =
    let source : src ≡ start.source = ap (λ (s : LinesState). s.source) e in
    let taken : place.taken ≡ start.taken = ap (λ (s : LinesState). s.taken) e in
    record {
      keeps = k;
      texts = ap (λ (s : LinesState). s.texts) e;
      given = ap (λ (s : LinesState). s.given) e;
      went = record {
        bytes = [];
        left = ap (λ (s : SourceState). s.left) (sym source) ∙ nothing_left src.left;
        given_by = ap (λ (s : SourceState). s.taken) source ∙ nothing_taken start.source.taken;
        count = omega (arith, taken);
        log = within_same start src source place.taken taken;
        other_is = ap (λ (s : LinesState). s.other) e;
        later = omega (arith, ap (λ (s : SourceState). s.read_faults) source);
      };
      asked = inl (source, taken, ap (λ (s : LinesState). s.ready) e);
    }
