-- Which message a bus's row finds, by cases on the kind of the bus.
use Rattle.std.proofs.Common.{◌≡◌, ◌≢◌, ◌∙◌, ℕ, ◌+◌, ◌<◌, ◌≤◌, Bool, true, false, List, Option, Some, None, find, refl, ap, sym, subst, arith}
use Rattle.std.specs.Prelude.{slice_get, slice_range, ◌==◌, if◌then◌else◌}
use Rattle.std.proofs.lemmas.Option.{slice_get_within}
use Rattle.bench_model.specs.declared.database.Kind.{Kind}
use Rattle.bench_model.specs.declared.database.Kind.TheVariants.{Can, J1939, Lin}
use Rattle.bench_model.specs.declared.database.Key.{Key}
use Rattle.bench_model.specs.declared.database.Message.{Message}
use Rattle.bench_model.specs.declared.database.Bus.{Bus}
use Rattle.bench_model.specs.declared.reading.Ask.TheVariants as ask
use Rattle.bench_model.specs.Meaning.{group_of, has_key, group_match, or_else, matching}
use Rattle.image_words.specs.declared.rows.BusRow.{BusRow}
use Rattle.image_words.specs.Index.{extended_from, key_number, groups_on, group_entries, HasIndex, IsIndexOf}
use Rattle.image_words.specs.Image.{kind_of, HasMessage}
use Rattle.image_words.specs.Knowledge.{Knowledge, SomeFits}
use Rattle.image_words.specs.Reading.{EachHas}
use Rattle.image_words.specs.Found.{IsFirstPosition, IsFoundAt, BusOf}
use Rattle.image_words.proofs.RowLaws.{row_of}
use Rattle.std.proofs.lemmas.Bool.{eqb-true}
use Rattle.image_words.proofs.IndexLaws.{not_true, found_by_key, found_by_group}

-- an index lies within the list
pub index_within : (k : Knowledge) (row : BusRow) → SomeFits k → EachHas k (BusOf row) →
    ((1 ≤ row.messages → row.keys_at + row.messages ≤ k.size) × (1 ≤ row.groups → row.groups_at + row.groups ≤ k.size))
index_within k row some has =
    let bus = has some.image some.bench some.fits in (
      (λ h. (let w = bus.1.keys.within h in omega (arith, w, some.fits.encodes.whole, some.fits.size))),
      (λ h. (let w = bus.1.groups.within h in omega (arith, w, some.fits.encodes.whole, some.fits.size))),
    )

-- identifiers are small
some_is : (a b : Message) → Some a ≡ Some b → a ≡ b
some_is a b e = cc

not_equal : (a b : ℕ) → a ≢ b → (a == b) ≡ false
not_equal a b h = not_true (a == b) (λ same. h (eqb-true a b same))

small_id : (image : List ℕ) (row : BusRow) (bus : Bus) → BusOf row image bus → (q : ℕ) (m : Message) → slice_get bus.database.messages q ≡ Some m →
    m.key.id < extended_from
small_id image row bus has q m at =
    let within : q < row.messages = omega (arith, slice_get_within bus.database.messages q m at, has.messages.size) in
    let found = row_of (HasMessage image) 5 row.messages_at row.messages bus.database.messages q has.messages within in
    let same : found.0 ≡ m = some_is found.0 m (sym found.1 ∙ at) in
    let id : found.0.key.id < extended_from = omega (arith, found.2.id) in
    let P : Message → Type 0 = λ x. x.key.id < extended_from in
    subst P same id

pub key_found : (image : List ℕ) (row : BusRow) (bus : Bus) (key : Key) (number : ℕ) (result : Option ℕ) → BusOf row image bus → key.id < extended_from →
    number ≡ key_number key → IsFirstPosition (slice_range image row.keys_at (row.keys_at + row.messages)) number result →
    IsFoundAt bus.database.messages result (find (has_key key) bus.database.messages)
key_found image row bus key number result has small e first =
    let P : ℕ → Type 0 = λ n. IsFirstPosition (slice_range image row.keys_at (row.keys_at + row.messages)) n result in
    found_by_key bus.database.messages (slice_range image row.keys_at (row.keys_at + row.messages)) key result has.keys.index
    (omega (arith, has.few)) small (small_id image row bus has) (subst P e first)

-- a J1939 bus has the index of its groups
group_index : (image : List ℕ) (k : Kind) (ms : List Message) (at count : ℕ) → k ≡ J1939 → HasIndex image (groups_on k ms) at count →
    IsIndexOf (group_entries 0 ms) (slice_range image at (at + count))
group_index image k ms at count e has =
    let P : Kind → Type 0 = λ x. IsIndexOf (groups_on x ms) (slice_range image at (at + count)) in
    subst P e has.index

pub group_found : (image : List ℕ) (row : BusRow) (bus : Bus) (pgn number : ℕ) (result : Option ℕ) → BusOf row image bus → row.kind ≡ 1 →
    number ≡ pgn → IsFirstPosition (slice_range image row.groups_at (row.groups_at + row.groups)) number result →
    IsFoundAt bus.database.messages result (matching bus.kind (ask.Group pgn) bus.database.messages)
group_found image row bus pgn number result has kind e first =
    let is : bus.kind ≡ J1939 = has.kind ∙ ap kind_of kind in
    let P : ℕ → Type 0 = λ n. IsFirstPosition (slice_range image row.groups_at (row.groups_at + row.groups)) n result in
    let found = found_by_group bus.database.messages (slice_range image row.groups_at (row.groups_at + row.groups)) pgn result
    (group_index image bus.kind bus.database.messages row.groups_at row.groups is has.groups) (omega (arith, has.few)) (subst P e first) in
    let Q : Kind → Type 0 = λ x. IsFoundAt bus.database.messages result (matching x (ask.Group pgn) bus.database.messages) in
    subst Q (sym is) found

-- any other bus finds none by a group
no_group : (zero_kind one_kind : Bool) (pgn : ℕ) (ms : List Message) → one_kind ≡ false →
    matching (if zero_kind then Can else if one_kind then J1939 else Lin) (ask.Group pgn) ms ≡ None
no_group true one_kind pgn ms e = refl
no_group false false pgn ms e = refl
no_group false true pgn ms e = cc

pub group_missing : (image : List ℕ) (row : BusRow) (bus : Bus) (pgn : ℕ) → BusOf row image bus → row.kind ≢ 1 →
    IsFoundAt bus.database.messages None (matching bus.kind (ask.Group pgn) bus.database.messages)
group_missing image row bus pgn has other =
    let fails : (row.kind == 1) ≡ false = not_equal row.kind 1 other in
    let Q : Kind → Type 0 = λ x. IsFoundAt bus.database.messages None (matching x (ask.Group pgn) bus.database.messages) in
    subst Q (sym has.kind) (rw (no_group (row.kind == 0) (row.kind == 1) pgn bus.database.messages fails) tt)

-- ---- frames

found_first : (ms : List Message) (position : ℕ) (first second : Option Message) → IsFoundAt ms (Some position) first → IsFoundAt ms (Some position) (or_else first second)
found_first ms position (Some m) second h = h
found_first ms position None second h = absurd h

pub frame_by_key : (k : Kind) (ms : List Message) (key : Key) (position : ℕ) → IsFoundAt ms (Some position) (find (has_key key) ms) →
    IsFoundAt ms (Some position) (matching k (ask.Frame key) ms)
frame_by_key Can ms key position h = h
frame_by_key Lin ms key position h = h
frame_by_key J1939 ms key position h = found_first ms position (find (has_key key) ms) (group_match key.extended key.id ms) h

none_found : (ms : List Message) (first : Option Message) → IsFoundAt ms None first → first ≡ None
none_found ms None h = refl
none_found ms (Some m) h = absurd h

by_own_group : (k : Kind) (ms : List Message) (key : Key) (result : Option ℕ) (extended : Bool) → find (has_key key) ms ≡ None → key.extended ≡ extended → extended ≡ true →
    IsFoundAt ms result (matching k (ask.Group (group_of key.id)) ms) → IsFoundAt ms result (matching k (ask.Frame key) ms)
by_own_group Can ms key result extended none e set h = rw none h
by_own_group Lin ms key result extended none e set h = rw none h
by_own_group J1939 ms key result extended none e set h = rw (none, e ∙ set) h

pub frame_by_group : (k : Kind) (ms : List Message) (key : Key) (result : Option ℕ) → IsFoundAt ms None (find (has_key key) ms) → key.extended ≡ true →
    IsFoundAt ms result (matching k (ask.Group (group_of key.id)) ms) → IsFoundAt ms result (matching k (ask.Frame key) ms)
frame_by_group k ms key result none e h = by_own_group k ms key result true (none_found ms (find (has_key key) ms) none) e refl h

frame_missing : (k : Kind) (ms : List Message) (key : Key) → find (has_key key) ms ≡ None → key.extended ≡ false → IsFoundAt ms None (matching k (ask.Frame key) ms)
frame_missing Can ms key none e = rw none tt
frame_missing Lin ms key none e = rw none tt
frame_missing J1939 ms key none e = rw (none, e) tt

pub frame_not_found : (k : Kind) (ms : List Message) (key : Key) → IsFoundAt ms None (find (has_key key) ms) → key.extended ≡ false →
    IsFoundAt ms None (matching k (ask.Frame key) ms)
frame_not_found k ms key none e = frame_missing k ms key (none_found ms (find (has_key key) ms) none) e
