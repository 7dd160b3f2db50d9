-- The lines of bytes that end in a line feed, and of what follows it.
use Rattle.std.proofs.Common.{subst, ◌≡◌, ℕ, ◌+◌, ◌<◌, ◌≤◌, Bool, true, false, List, [], ◌∷◌, ◌++◌, length, take, drop, refl, ap, sym, ◌∙◌, arith, append_assoc, inl, inr, zero, suc, add-one}
use Rattle.std.specs.Prelude.{◌==◌, slice_index}
use Rattle.std.specs.List.{AllByRecursion}
use Rattle.std.proofs.lemmas.List.{append-nil}
use Rattle.std.proofs.lemmas.Bool.{cases_Bool, eqb-true}
use Rattle.byte_forms.specs.Lines.{all_lines, onto_first}
use Rattle.candump_log.specs.LogLines.{whole_lines, onto_whole, with_feeds, last_line, NoFeed}
use Rattle.candump_log.specs.Cut.{Cut, onto, cut_before, cut, has_feed}

-- ---- both kinds of lines by the cut

whole_before : (t : Bool) (b : ℕ) (ws : List (List ℕ)) (r : List ℕ) → elim t [ true ↦ [] ∷ ws | false ↦ onto_whole b ws ] ≡ (cut_before t b (record { whole = ws; rest = r })).whole
whole_before true b ws r = refl
whole_before false b [] r = refl
whole_before false b (w ∷ ws) r = refl

pub whole_lines-cut : (bytes : List ℕ) → whole_lines bytes ≡ (cut bytes).whole
unfolding whole_lines
whole_lines-cut [] = refl
whole_lines-cut (b ∷ bs) =
    elim (cases_Bool (b == 10)) [
      | inl feed ↦ rw feed (ap (λ (ws : List (List ℕ)). [] ∷ ws) (whole_lines-cut bs))
      | inr other ↦ rw other (ap (onto_whole b) (whole_lines-cut bs) ∙ whole_onto b (cut bs).whole (cut bs).rest)
    ]
  where
    whole_onto : (b : ℕ) (ws : List (List ℕ)) (r : List ℕ) → onto_whole b ws ≡ (onto b ws r).whole
    whole_onto b [] r = refl
    whole_onto b (w ∷ ws) r = refl

abbrev all_of : Cut → List (List ℕ)
all_of c = c.whole ++ last_line c.rest

pub all_lines-cut : (bytes : List ℕ) → all_lines bytes ≡ (cut bytes).whole ++ last_line (cut bytes).rest
unfolding all_lines
all_lines-cut [] = refl
all_lines-cut (b ∷ bs) =
    elim (cases_Bool (b == 10)) [
      | inl feed ↦ rw feed (ap (λ (ws : List (List ℕ)). [] ∷ ws) (all_lines-cut bs))
      | inr other ↦ rw other (ap (onto_first b) (all_lines-cut bs) ∙ all_onto b (cut bs).whole (cut bs).rest)
    ]
  where
    all_onto : (b : ℕ) (ws : List (List ℕ)) (r : List ℕ) → onto_first b (ws ++ last_line r) ≡ all_of (onto b ws r)
    all_onto b [] [] = refl
    all_onto b [] (c ∷ cs) = refl
    all_onto b (w ∷ ws) r = refl

-- ---- bytes one after another

abbrev parts : List (List ℕ) → List ℕ → Cut
parts ws r = record { whole = ws; rest = r }

abbrev joined : List (List ℕ) → List ℕ → List (List ℕ) → List ℕ → Cut
joined ws r [] s = parts ws (r ++ s)
joined ws r (v ∷ vs) s = parts (ws ++ (r ++ v) ∷ vs) s

abbrev join : Cut → Cut → Cut
join c d = joined c.whole c.rest d.whole d.rest

before-join : (t : Bool) (x : ℕ) (ws : List (List ℕ)) (r : List ℕ) (vs : List (List ℕ)) (s : List ℕ) → cut_before t x (joined ws r vs s) ≡ join (cut_before t x (parts ws r)) (parts vs s)
before-join true x ws r [] s = refl
before-join true x ws r (v ∷ vs) s = refl
before-join false x [] r [] s = refl
before-join false x [] r (v ∷ vs) s = refl
before-join false x (w ∷ ws) r [] s = refl
before-join false x (w ∷ ws) r (v ∷ vs) s = refl

join_nil : (vs : List (List ℕ)) (s : List ℕ) → parts vs s ≡ joined [] [] vs s
join_nil [] s = refl
join_nil (v ∷ vs) s = refl

cut-append : (xs ys : List ℕ) → cut (xs ++ ys) ≡ join (cut xs) (cut ys)
cut-append [] ys = join_nil (cut ys).whole (cut ys).rest
cut-append (x ∷ xs) ys = ap (cut_before (x == 10) x) (cut-append xs ys) ∙ before-join (x == 10) x (cut xs).whole (cut xs).rest (cut ys).whole (cut ys).rest

cut-plain : (bs : List ℕ) → NoFeed bs → cut bs ≡ parts [] bs
cut-plain [] h = refl
cut-plain (b ∷ bs) h = ap (λ (t : Bool). cut_before t b (cut bs)) h.0 ∙ ap (cut_before false b) (cut-plain bs h.1)

cut_line : (piece : List ℕ) → NoFeed piece → cut (piece ++ 10 ∷ []) ≡ parts (piece ∷ []) []
cut_line piece h =
    cut-append piece (10 ∷ []) ∙ ap (λ (c : Cut). join c (cut (10 ∷ []))) (cut-plain piece h) ∙ ap (λ (l : List ℕ). parts (l ∷ []) []) (append-nil piece)

pub closed_line : (done piece : List ℕ) → (cut done).rest ≡ [] → NoFeed piece → cut (done ++ (piece ++ 10 ∷ [])) ≡ parts ((cut done).whole ++ piece ∷ []) []
closed_line done piece closed h =
    cut-append done (piece ++ 10 ∷ []) ∙ ap (join (cut done)) (cut_line piece h) ∙ ap (λ (r : List ℕ). parts ((cut done).whole ++ (r ++ piece) ∷ []) []) closed

closed_plain : (done piece : List ℕ) → (cut done).rest ≡ [] → NoFeed piece → cut (done ++ piece) ≡ parts (cut done).whole piece
closed_plain done piece closed h =
    cut-append done piece ∙ ap (join (cut done)) (cut-plain piece h) ∙ ap (λ (r : List ℕ). parts (cut done).whole (r ++ piece)) closed

all_lines-closed : (done : List ℕ) → (cut done).rest ≡ [] → all_lines done ≡ (cut done).whole
all_lines-closed done closed = all_lines-cut done ∙ ap (λ (r : List ℕ). (cut done).whole ++ last_line r) closed ∙ append-nil (cut done).whole

-- a line more that ends in a line feed
pub all_lines-line : (done piece : List ℕ) → (cut done).rest ≡ [] → NoFeed piece → all_lines (done ++ (piece ++ 10 ∷ [])) ≡ all_lines done ++ piece ∷ []
all_lines-line done piece closed h =
    all_lines-cut (done ++ (piece ++ 10 ∷ [])) ∙ ap all_of (closed_line done piece closed h) ∙ append-nil ((cut done).whole ++ piece ∷ []) ∙ ap (λ (w : List (List ℕ)). w ++ piece ∷ []) (sym (all_lines-closed done closed))

-- a last line without one
pub all_lines-last : (done piece : List ℕ) → (cut done).rest ≡ [] → NoFeed piece → 0 < length piece → all_lines (done ++ piece) ≡ all_lines done ++ piece ∷ []
all_lines-last done [] closed h some = absurd (omega arith)
all_lines-last done (p ∷ ps) closed h some =
    all_lines-cut (done ++ (p ∷ ps)) ∙ ap all_of (closed_plain done (p ∷ ps) closed h) ∙ ap (λ (w : List (List ℕ)). w ++ (p ∷ ps) ∷ []) (sym (all_lines-closed done closed))

-- what follows is no whole line
pub whole_lines-plain : (done piece : List ℕ) → (cut done).rest ≡ [] → NoFeed piece → whole_lines (done ++ piece) ≡ all_lines done
whole_lines-plain done piece closed h = whole_lines-cut (done ++ piece) ∙ ap (λ (c : Cut). c.whole) (closed_plain done piece closed h) ∙ sym (all_lines-closed done closed)

-- what follows a line feed has its own lines
pub all_lines-append : (done more : List ℕ) → (cut done).rest ≡ [] → all_lines (done ++ more) ≡ all_lines done ++ all_lines more
all_lines-append done more closed =
    all_lines-cut (done ++ more) ∙ ap all_of (cut-append done more ∙ ap (λ (r : List ℕ). joined (cut done).whole r (cut more).whole (cut more).rest) closed)
    ∙ all_joined (cut done).whole (cut more).whole (cut more).rest
    ∙ (rw (all_lines-closed done closed, all_lines-cut more) refl)
  where
    all_joined : (ws vs : List (List ℕ)) (s : List ℕ) → all_of (joined ws [] vs s) ≡ ws ++ (vs ++ last_line s)
    all_joined ws [] s = refl
    all_joined ws (v ∷ vs) s = append_assoc ws (v ∷ vs) (last_line s)

pub NoFeed-append : (xs ys : List ℕ) → NoFeed xs → NoFeed ys → NoFeed (xs ++ ys)
NoFeed-append [] ys h k = k
NoFeed-append (x ∷ xs) ys h k = (h.0, NoFeed-append xs ys h.1 k)

-- ---- the first line feed, as a search finds it

no_feed_here : (b : ℕ) → ((b == 10) ≡ true → ⊥) → (b == 10) ≡ false
no_feed_here b h =
    elim (cases_Bool (b == 10)) [
      | inl feed ↦ absurd (h feed)
      | inr other ↦ other
    ]

pub none_found : (bs : List ℕ) → ((k : ℕ) → 0 ≤ k → k < length bs → (slice_index bs k == 10) ≡ true → ⊥) → NoFeed bs
none_found [] h = tt
none_found (b ∷ bs) h = (no_feed_here b (h zero (omega arith) (omega arith)), none_found bs (λ k low high. h (suc k) (omega arith) (omega arith)))

pub none_before : (bs : List ℕ) (at : ℕ) → at < length bs → ((k : ℕ) → 0 ≤ k → k < at → (slice_index bs k == 10) ≡ true → ⊥) → NoFeed (take at bs)
none_before [] at below h = absurd (omega arith)
none_before (b ∷ bs) zero below h = tt
none_before (b ∷ bs) (suc at) below h =
    (no_feed_here b (h zero (omega arith) (omega arith)), none_before bs at (omega arith) (λ k low high. h (suc k) (omega arith) (omega arith)))

parted_suc : (bs : List ℕ) (at : ℕ) → at < length bs → (slice_index bs at == 10) ≡ true → bs ≡ take at bs ++ 10 ∷ drop (suc at) bs
parted_suc [] at below h = absurd (omega arith)
parted_suc (b ∷ bs) zero below h = ap (λ (x : ℕ). x ∷ bs) (eqb-true b 10 h)
parted_suc (b ∷ bs) (suc at) below h = ap (λ (l : List ℕ). b ∷ l) (parted_suc bs at (omega arith) h)

pub parted_at : (bs : List ℕ) (at : ℕ) → at < length bs → (slice_index bs at == 10) ≡ true → bs ≡ take at bs ++ 10 ∷ drop (at + 1) bs
parted_at bs at below h = rw (add-one at) (parted_suc bs at below h)

-- as a test
pub has_feed-none : (bs : List ℕ) → NoFeed bs → has_feed bs ≡ false
has_feed-none [] h = refl
has_feed-none (b ∷ bs) h = let here = h.0 in rw here (has_feed-none bs h.1)

pub has_feed-some : (piece rest : List ℕ) → has_feed (piece ++ 10 ∷ rest) ≡ true
has_feed-some [] rest = refl
has_feed-some (b ∷ bs) rest =
    elim (cases_Bool (b == 10)) [
      | inl feed ↦ rw feed refl
      | inr other ↦ rw other (has_feed-some bs rest)
    ]

pub feed_found : (bs : List ℕ) (at : ℕ) → at < length bs → (slice_index bs at == 10) ≡ true → has_feed bs ≡ true
feed_found bs at below h = ap has_feed (parted_at bs at below h) ∙ has_feed-some (take at bs) (drop (at + 1) bs)

-- ---- bytes and their lines

parted_cut : (bytes : List ℕ) → bytes ≡ with_feeds (cut bytes).whole ++ (cut bytes).rest
parted_cut [] = refl
parted_cut (b ∷ bs) =
    elim (cases_Bool (b == 10)) [
      | inl feed ↦
          let e : b ≡ 10 = eqb-true b 10 feed in
          rw feed (ap (λ (x : ℕ). x ∷ bs) e ∙ ap (λ (l : List ℕ). 10 ∷ l) (parted_cut bs))
      | inr other ↦ rw other (ap (λ (l : List ℕ). b ∷ l) (parted_cut bs) ∙ onto_parted b (cut bs).whole (cut bs).rest)
    ]
  where
    onto_parted : (b : ℕ) (ws : List (List ℕ)) (r : List ℕ) → b ∷ (with_feeds ws ++ r) ≡ with_feeds (onto b ws r).whole ++ (onto b ws r).rest
    onto_parted b [] r = refl
    onto_parted b (w ∷ ws) r = refl

abbrev EachPlain : Cut → Type 0
EachPlain c = AllByRecursion NoFeed c.whole × NoFeed c.rest

plain_cut : (bytes : List ℕ) → EachPlain (cut bytes)
plain_cut [] = (tt, tt)
plain_cut (b ∷ bs) =
    let more = plain_cut bs in
    elim (cases_Bool (b == 10)) [
      | inl feed ↦ rw feed ((tt, more.0), more.1)
      | inr other ↦ rw other (onto_plain b other (cut bs).whole (cut bs).rest more.0 more.1)
    ]
  where
    onto_plain : (b : ℕ) → (b == 10) ≡ false → (ws : List (List ℕ)) (r : List ℕ) → AllByRecursion NoFeed ws → NoFeed r → EachPlain (onto b ws r)
    onto_plain b other [] r each plain = (tt, (other, plain))
    onto_plain b other (w ∷ ws) r each plain = (((other, each.0), each.1), plain)

pub whole_lines-parted : (bytes : List ℕ) → (rest : List ℕ) × NoFeed rest × (bytes ≡ with_feeds (whole_lines bytes) ++ rest) × (all_lines bytes ≡ whole_lines bytes ++ last_line rest)
whole_lines-parted bytes =
    let e = whole_lines-cut bytes in (
      (cut bytes).rest,
      (plain_cut bytes).1,
      parted_cut bytes ∙ ap (λ (ws : List (List ℕ)). with_feeds ws ++ (cut bytes).rest) (sym e),
      all_lines-cut bytes ∙ ap (λ (ws : List (List ℕ)). ws ++ last_line (cut bytes).rest) (sym e),
    )

pub whole_lines-plain_each : (bytes : List ℕ) → AllByRecursion NoFeed (whole_lines bytes)
whole_lines-plain_each bytes = let P : List (List ℕ) → Type 0 = AllByRecursion NoFeed in subst P (sym (whole_lines-cut bytes)) (plain_cut bytes).0
