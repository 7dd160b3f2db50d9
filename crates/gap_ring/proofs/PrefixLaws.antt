-- What was given in a turn, whether or not it lasted to the end, is nothing, or a prefix of that turn's group.
use Rattle.std.proofs.Common.{◌≡◌, ◌≢◌, ◌⊎◌, ℕ, zero, suc, ◌+◌, ◌-◌, ◌<◌, ◌≤◌, ◌==◌, false, List, [], ◌∷◌, ◌++◌, length, get_or, filter, flat_map}
use Rattle.std.proofs.Common.{All, AllPairs, Contains, refl, sym, ap, ◌∙◌, subst, arith, append-nil, append_assoc, inl, inr, ⊎_elim, eq-eqb, ne_eqb}
use Rattle.std.specs.List.{range_with_len}
use Rattle.std.proofs.lemmas.Bool.{cases_eq, cond-true}
use Rattle.std.proofs.lemmas.List.{map-append}
use Rattle.std.proofs.lemmas.List.Concat.{flat_map-append}
use Rattle.std.proofs.lemmas.List.Elements.{All-nil, All-cons, All-head, All-tail, All-filter, All-map, filter-append}
use Rattle.bench_model.specs.declared.reading.Reading.{Reading}
use Rattle.bench_model.specs.declared.reading.Item.{Item}
use Rattle.bench_model.specs.declared.reading.Item.TheVariants as item
use Rattle.gap_ring.specs.declared.entries.Offered.{Offered}
use Rattle.gap_ring.specs.declared.entries.Taken.{Taken}
use Rattle.gap_ring.specs.Offers.{put_of, readings_of}
use Rattle.gap_ring.specs.Tiles.{Tiles, IsFrom, numbers_in}
use Rattle.gap_ring.specs.Groups.{Group, group_items, IsGroup, AreGroups}
use Rattle.gap_ring.specs.Turns.{items_taken, from_start, given, IsStartBy, AreTaken, IsPartOfTurn}
use Rattle.gap_ring.proofs.PlaceLaws.{filter_none, all_left, all_right, all_pairs_right, all_pairs_head, all_pairs_tail, all_unmap, all_flat_map, map_split, head_same, tail_same}
use Rattle.gap_ring.proofs.TurnLaws.{IsNoStart, other_group, no_start, in_turn, given_nothing}

module _ {A : Type 0} where
  -- of two ways to cut a list one comes first
  cuts : (xs ys zs ws : List A) → xs ++ ys ≡ zs ++ ws → ((more : List A) × (zs ≡ xs ++ more)) ⊎ ((more : List A) × (xs ≡ zs ++ more) × (ws ≡ more ++ ys))
  cuts [] ys zs ws e = inl (zs, refl)
  cuts (x ∷ xs) ys [] ws e = inr (x ∷ xs, refl, sym e)
  cuts (x ∷ xs) ys (z ∷ zs) ws e =
      let first : x ≡ z = head_same x z (xs ++ ys) (zs ++ ws) e in
      ⊎_elim
      (λ (h : (more : List A) × (zs ≡ xs ++ more)). inl (h.0, ap (λ l. z ∷ l) h.1 ∙ ap (λ a. a ∷ (xs ++ h.0)) (sym first)))
      (λ (h : (more : List A) × (xs ≡ zs ++ more) × (ws ≡ more ++ ys)). inr (h.0, ap (λ l. x ∷ l) h.1 ∙ ap (λ a. a ∷ (zs ++ h.0)) first, h.2))
      (cuts xs ys zs ws (tail_same x z (xs ++ ys) (zs ++ ws) e))

  contains_here : (xs ys : List A) (x : A) → Contains (xs ++ x ∷ ys) x
  contains_here [] ys x = (0, omega arith, refl)
  contains_here (y ∷ xs) ys x =
      let rest = contains_here xs ys x in
      let below = rest.1 in
      (suc rest.0, omega arith, rest.2)

-- a prefix of a range is a range
range_prefix : (xs ys : List ℕ) (a n : ℕ) → xs ++ ys ≡ range_with_len a n → xs ≡ range_with_len a (length xs)
range_prefix [] ys a n e = refl
range_prefix (x ∷ xs) ys a zero e = absurd (let h : length (x ∷ (xs ++ ys)) ≡ 0 = ap length e in omega arith)
range_prefix (x ∷ xs) ys a (suc n) e =
    let first : x ≡ a = head_same x a (xs ++ ys) (range_with_len (a + 1) n) e in
    let rest = range_prefix xs ys (a + 1) n (tail_same x a (xs ++ ys) (range_with_len (a + 1) n) e) in
    ap (λ l. x ∷ l) rest ∙ ap (λ z. z ∷ range_with_len (a + 1) (length xs)) first

tiles_prefix : (xs ys : List Item) (list : List Reading) (a b : ℕ) → Tiles (xs ++ ys) list a b → Tiles xs list a (a + length (flat_map numbers_in xs))
tiles_prefix xs ys list a b h =
    let count : a + length (flat_map numbers_in xs) - a ≡ length (flat_map numbers_in xs) = omega arith in
    record {
      order = omega arith;
      true_to = all_left (IsFrom list) xs ys h.true_to;
      once =
          range_prefix (flat_map numbers_in xs) (flat_map numbers_in ys) a (b - a) (sym (flat_map-append numbers_in xs ys) ∙ h.once)
          ∙ ap (λ n. range_with_len a n) (sym count);
    }

-- no item of groups of other turns begins this one
others : (turn bus : ℕ) (os : List Offered) (gs : List Group) → All (IsGroup os) gs → All (λ g. g.turn ≢ turn) gs → All (IsNoStart turn) (flat_map (group_items bus) gs)
others turn bus os gs h other =
    all_flat_map (group_items bus) (IsNoStart turn) gs (λ k d below. other_group turn bus os (get_or gs k d) (h k d below) (other k d below))

-- the group of a turn among groups whose turns rise
record Split (turn : ℕ) (gs : List Group) : Type 0 where
  pub closed : List Group
  pub g : Group
  pub later : List Group
  pub joined : gs ≡ closed ++ g ∷ later
  pub before : All (λ c. c.turn ≢ turn) closed
  pub turn_is : g.turn ≡ turn
  pub above : All (λ c. turn < c.turn) later

split : (turn : ℕ) (gs : List Group) → AllPairs (λ g h. g.turn < h.turn) gs → (All (λ c. c.turn ≢ turn) gs) ⊎ Split turn gs
split turn [] rise = inl (All-nil (λ (c : Group). c.turn ≢ turn))
split turn (x ∷ gs) rise =
    ⊎_elim
    (λ (same : x.turn ≡ turn).
    let high = all_pairs_head (λ (g h : Group). g.turn < h.turn) x gs rise in
    inr record {
      closed = [];
      g = x;
      later = gs;
      joined = refl;
      before = All-nil (λ (c : Group). c.turn ≢ turn);
      turn_is = same;
      above = λ k d below. let a = high k d below in omega arith;
    })
    (λ (other : x.turn ≢ turn).
    ⊎_elim
    (λ (h : All (λ (c : Group). c.turn ≢ turn) gs). inl (All-cons (λ (c : Group). c.turn ≢ turn) x gs other h))
    (λ (s : Split turn gs).
    inr record {
      closed = x ∷ s.closed;
      g = s.g;
      later = s.later;
      joined = ap (λ l. x ∷ l) s.joined;
      before = All-cons (λ (c : Group). c.turn ≢ turn) x s.closed other s.before;
      turn_is = s.turn_is;
      above = s.above;
    })
    (split turn gs (all_pairs_tail (λ (g h : Group). g.turn < h.turn) x gs rise)))
    (cases_eq x.turn turn)

-- of what was taken from a turn on, that taken in the turn comes first
record InOrder (turn : ℕ) (ts : List Taken) : Type 0 where
  pub in_it : List Taken
  pub after : List Taken
  pub joined : ts ≡ in_it ++ after
  pub kept : filter (in_turn turn) ts ≡ in_it
  pub words : All (λ s. s.attach ≡ turn) in_it

in_order : (turn : ℕ) (ts : List Taken) → All (λ s. turn ≤ s.attach) ts → AllPairs (λ s t. s.attach ≤ t.attach) ts → InOrder turn ts
in_order turn [] low rise = record { in_it = []; after = []; joined = refl; kept = refl; words = All-nil (λ (s : Taken). s.attach ≡ turn) }
in_order turn (t ∷ ts) low rise =
    ⊎_elim
    (λ (same : t.attach ≡ turn).
    let r = in_order turn ts (All-tail (λ (s : Taken). turn ≤ s.attach) t ts low) (all_pairs_tail (λ (s u : Taken). s.attach ≤ u.attach) t ts rise) in
    record {
      in_it = t ∷ r.in_it;
      after = r.after;
      joined = ap (λ l. t ∷ l) r.joined;
      kept =
          cond-true (t.attach == turn) (t ∷ filter (in_turn turn) ts) (filter (in_turn turn) ts) (eq-eqb t.attach turn same)
          ∙ ap (λ l. t ∷ l) r.kept;
      words = All-cons (λ (s : Taken). s.attach ≡ turn) t r.in_it same r.words;
    })
    (λ (other : t.attach ≢ turn).
    let here : turn ≤ t.attach = All-head (λ (s : Taken). turn ≤ s.attach) t ts low in
    let high = all_pairs_head (λ (s u : Taken). s.attach ≤ u.attach) t ts rise in
    let less : turn < t.attach = omega arith in
    record {
      in_it = [];
      after = t ∷ ts;
      joined = refl;
      kept =
          filter_none (in_turn turn) (t ∷ ts)
          (All-cons (λ (s : Taken). in_turn turn s ≡ false) t ts (ne_eqb t.attach turn other)
          (λ k d below. let s : Taken = get_or ts k d in let a = high k d below in ne_eqb s.attach turn (λ e. omega arith)));
      words = All-nil (λ (s : Taken). s.attach ≡ turn);
    })
    (cases_eq t.attach turn)

-- what was taken before the Start gives nothing
given_from : (turn : ℕ) (before after : List Taken) → All (IsNoStart turn) (items_taken before)
    → given (before ++ after) turn ≡ from_start turn (items_taken (filter (in_turn turn) after))
given_from turn before after none =
    let old : List Item = items_taken (filter (in_turn turn) before) in
    ap (λ (l : List Taken). from_start turn (items_taken l)) (filter-append (in_turn turn) before after)
    ∙ (ap (from_start turn) (map-append (λ (s : Taken). s.item) (filter (in_turn turn) before) (filter (in_turn turn) after))
    ∙ no_start turn old (items_taken (filter (in_turn turn) after))
    (All-map (IsNoStart turn) (λ (s : Taken). s.item) (filter (in_turn turn) before)
    (All-filter (in_turn turn) (λ s. IsNoStart turn s.item) before (all_unmap (λ (s : Taken). s.item) (IsNoStart turn) before none))))

-- no Start of a later turn was taken in this one
none_later : (bus turn : ℕ) (later : List Group) (more rest : List Item) → All (λ c. turn < c.turn) later → flat_map (group_items bus) later ≡ more ++ rest
    → All (IsStartBy turn) more → more ≡ []
none_later bus turn later [] rest above e by = refl
none_later bus turn [] (y ∷ more) rest above e by = absurd (let h : 0 ≡ length (y ∷ (more ++ rest)) = ap length e in omega arith)
none_later bus turn (h ∷ hs) (y ∷ more) rest above e by =
    let start : item.Start bus h.number h.turn ≡ y = head_same (item.Start bus h.number h.turn) y (h.items ++ flat_map (group_items bus) hs) (more ++ rest) e in
    let low : h.turn ≤ turn = subst (IsStartBy turn) (sym start) (All-head (IsStartBy turn) y more by) in
    let high : turn < h.turn = All-head (λ (c : Group). turn < c.turn) h hs above in
    absurd (omega arith)

module _ (bus attach turn : ℕ) (os : List Offered) (g : Group) (later : List Group) (waiting : List Item) (is_group : IsGroup os g) (same : g.turn ≡ turn)
    (above : All (λ c. turn < c.turn) later) (before : List Taken) (none : All (IsNoStart turn) (items_taken before)) where
  abbrev Outcome : List Taken → Type 0
  Outcome taken = (given taken turn ≡ []) ⊎ IsPartOfTurn bus os turn (given taken turn) g

  -- the Start and what was taken in its turn
  of_turn : (after xs ys : List Taken) (s : Taken) → after ≡ (s ∷ xs) ++ ys → filter (in_turn turn) after ≡ s ∷ xs → All (λ t. t.attach ≡ turn) (s ∷ xs)
      → All (λ t. IsStartBy t.attach t.item) after → items_taken after ++ waiting ≡ group_items bus g ++ flat_map (group_items bus) later → Outcome (before ++ after)
  of_turn after xs ys s joined kept words in_time put =
      let start : s.item ≡ item.Start bus g.number g.turn =
      head_same s.item (item.Start bus g.number g.turn) (items_taken (xs ++ ys) ++ waiting) (g.items ++ flat_map (group_items bus) later)
      (ap (λ (l : List Taken). items_taken l ++ waiting) (sym joined) ∙ put) in
      let rest : items_taken (xs ++ ys) ++ waiting ≡ g.items ++ flat_map (group_items bus) later =
      tail_same s.item (item.Start bus g.number g.turn) (items_taken (xs ++ ys) ++ waiting) (g.items ++ flat_map (group_items bus) later)
      (ap (λ (l : List Taken). items_taken l ++ waiting) (sym joined) ∙ put) in
      let parts : items_taken xs ++ (items_taken ys ++ waiting) ≡ g.items ++ flat_map (group_items bus) later =
      sym (ap (λ (l : List Item). l ++ waiting) (map-append (λ (t : Taken). t.item) xs ys) ∙ append_assoc (items_taken xs) (items_taken ys) waiting) ∙ rest in
      let here : item.Start bus g.number g.turn ≡ item.Start bus g.number turn = ap (λ (n : ℕ). item.Start bus g.number n) same in
      let items : given (before ++ after) turn ≡ item.Start bus g.number turn ∷ items_taken xs =
      given_from turn before after none
      ∙ (ap (λ (l : List Taken). from_start turn (items_taken l)) kept
      ∙ (ap (λ (x : Item). from_start turn (x ∷ items_taken xs)) (start ∙ here)
      ∙ cond-true (turn == turn) (item.Start bus g.number turn ∷ items_taken xs) (from_start turn (items_taken xs)) (eq-eqb turn turn refl))) in
      let part : (rest_items : List Item) → g.items ≡ items_taken xs ++ rest_items → Outcome (before ++ after) =
      λ rest_items is. inr record {
        turn_is = same;
        group = is_group;
        after = items_taken xs;
        items_are = items;
        rest = rest_items;
        prefix = is;
        next = g.number + length (flat_map numbers_in (items_taken xs));
        tiles = tiles_prefix (items_taken xs) rest_items (readings_of os) g.number g.next (subst (λ (l : List Item). Tiles l (readings_of os) g.number g.next) is is_group.tiles);
      } in
      let timely : All (λ (t : Taken). IsStartBy t.attach t.item) xs =
      all_left (λ (t : Taken). IsStartBy t.attach t.item) xs ys
      (All-tail (λ (t : Taken). IsStartBy t.attach t.item) s (xs ++ ys) (subst (All (λ (t : Taken). IsStartBy t.attach t.item)) joined in_time)) in
      let its = All-tail (λ (t : Taken). t.attach ≡ turn) s xs words in
      let by_turn : All (IsStartBy turn) (items_taken xs) =
      All-map (IsStartBy turn) (λ (t : Taken). t.item) xs
      (λ k d below. let t : Taken = get_or xs k d in subst (λ (a : ℕ). IsStartBy a t.item) (its k d below) (timely k d below)) in
      ⊎_elim
      (λ (h : (more : List Item) × (g.items ≡ items_taken xs ++ more)). part h.0 h.1)
      (λ (h : (more : List Item) × (items_taken xs ≡ g.items ++ more) × (flat_map (group_items bus) later ≡ more ++ (items_taken ys ++ waiting))).
      let ends : h.0 ≡ [] = none_later bus turn later h.0 (items_taken ys ++ waiting) above h.2 (all_right (IsStartBy turn) g.items h.0 (subst (All (IsStartBy turn)) h.1 by_turn)) in
      part [] (sym (append-nil (items_taken xs) ∙ (h.1 ∙ (ap (λ (l : List Item). g.items ++ l) ends ∙ append-nil g.items)))))
      (cuts (items_taken xs) (items_taken ys ++ waiting) g.items (flat_map (group_items bus) later) parts)

  nothing_in : (after : List Taken) → filter (in_turn turn) after ≡ [] → Outcome (before ++ after)
  nothing_in after e = inl (given_from turn before after none ∙ ap (λ (l : List Taken). from_start turn (items_taken l)) e)

  by_order : (after : List Taken) (o : InOrder turn after) (xs : List Taken) → o.in_it ≡ xs → All (λ t. IsStartBy t.attach t.item) after
      → items_taken after ++ waiting ≡ group_items bus g ++ flat_map (group_items bus) later → Outcome (before ++ after)
  by_order after o [] e in_time put = nothing_in after (o.kept ∙ e)
  by_order after o (s ∷ xs) e in_time put =
      of_turn after xs o.after s (o.joined ∙ ap (λ l. l ++ o.after) e) (o.kept ∙ e) (subst (All (λ (t : Taken). t.attach ≡ turn)) e o.words) in_time put

  part_of : (after : List Taken) → AreTaken attach (before ++ after) → items_taken after ++ waiting ≡ group_items bus g ++ flat_map (group_items bus) later → Outcome (before ++ after)
  part_of [] h put = nothing_in [] refl
  part_of (t ∷ ts) h put =
      let in_time = all_right (λ (s : Taken). IsStartBy s.attach s.item) before (t ∷ ts) h.in_time in
      let rise = all_pairs_right (λ (r s : Taken). r.attach ≤ s.attach) before (t ∷ ts) h.words_rise in
      let start : t.item ≡ item.Start bus g.number g.turn = head_same t.item (item.Start bus g.number g.turn) (items_taken ts ++ waiting) (g.items ++ flat_map (group_items bus) later) put in
      let first : g.turn ≤ t.attach = subst (IsStartBy t.attach) start (All-head (λ (s : Taken). IsStartBy s.attach s.item) t ts in_time) in
      let next = all_pairs_head (λ (r s : Taken). r.attach ≤ s.attach) t ts rise in
      let low : All (λ (s : Taken). turn ≤ s.attach) (t ∷ ts) =
      All-cons (λ (s : Taken). turn ≤ s.attach) t ts (omega arith) (λ k d below. let a = next k d below in omega arith) in
      let o = in_order turn (t ∷ ts) low rise in
      by_order (t ∷ ts) o o.in_it refl in_time put

-- what was taken of a turn's group, where what was taken is a prefix of what was put
pub part_given : (bus attach turn : ℕ) (os : List Offered) (taken : List Taken) (waiting : List Item) (gs : List Group) → AreTaken attach taken → AreGroups bus os (put_of os) gs
    → put_of os ≡ items_taken taken ++ waiting → (given taken turn ≡ []) ⊎ ((g : Group) × Contains gs g × IsPartOfTurn bus os turn (given taken turn) g)
part_given bus attach turn os taken waiting gs h groups put =
    let F : List Group → List Item = flat_map (group_items bus) in
    ⊎_elim
    (λ (other : All (λ (c : Group). c.turn ≢ turn) gs).
    let all : All (IsNoStart turn) (items_taken taken ++ waiting) = subst (All (IsNoStart turn)) (sym groups.joined ∙ put) (others turn bus os gs groups.each other) in
    inl (given_nothing taken turn (all_left (IsNoStart turn) (items_taken taken) waiting all)))
    (λ (s : Split turn gs).
    let each : All (IsGroup os) (s.closed ++ s.g ∷ s.later) = subst (All (IsGroup os)) s.joined groups.each in
    let older : All (IsNoStart turn) (F s.closed) = others turn bus os s.closed (all_left (IsGroup os) s.closed (s.g ∷ s.later) each) s.before in
    let mine : IsGroup os s.g = All-head (IsGroup os) s.g s.later (all_right (IsGroup os) s.closed (s.g ∷ s.later) each) in
    let cut : items_taken taken ++ waiting ≡ F s.closed ++ (group_items bus s.g ++ F s.later) =
    sym put ∙ (groups.joined ∙ (ap F s.joined ∙ flat_map-append (group_items bus) s.closed (s.g ∷ s.later))) in
    ⊎_elim
    (λ (c : (more : List Item) × (F s.closed ≡ items_taken taken ++ more)).
    inl (given_nothing taken turn (all_left (IsNoStart turn) (items_taken taken) c.0 (subst (All (IsNoStart turn)) c.1 older))))
    (λ (c : (more : List Item) × (items_taken taken ≡ F s.closed ++ more) × (group_items bus s.g ++ F s.later ≡ more ++ waiting)).
    let parts = map_split (λ (t : Taken). t.item) taken (F s.closed) c.0 c.1 in
    let none = subst (All (IsNoStart turn)) (sym parts.3) older in
    let out = part_of bus attach turn os s.g s.later waiting mine s.turn_is s.above parts.0 none parts.1 (subst (AreTaken attach) parts.2 h)
    (ap (λ (l : List Item). l ++ waiting) parts.4 ∙ sym c.2) in
    ⊎_elim
    (λ (e : given (parts.0 ++ parts.1) turn ≡ []). inl (ap (λ (l : List Taken). given l turn) parts.2 ∙ e))
    (λ (e : IsPartOfTurn bus os turn (given (parts.0 ++ parts.1) turn) s.g).
    inr (s.g, subst (λ (l : List Group). Contains l s.g) (sym s.joined) (contains_here s.closed s.later s.g), subst (λ (l : List Taken). IsPartOfTurn bus os turn (given l turn) s.g) (sym parts.2) e))
    out)
    (cuts (items_taken taken) waiting (F s.closed) (group_items bus s.g ++ F s.later) cut))
    (split turn gs groups.turns_rise)
