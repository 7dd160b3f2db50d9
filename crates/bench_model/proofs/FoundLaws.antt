-- What a search finds is one of the list.
use Rattle.std.proofs.Common.{◌≡◌, ℕ, ◌<◌, Bool, true, false, List, [], ◌∷◌, find, All, cond, IfSome, Some, None, Option, length, get_or, refl, ◌∙◌, sym, ap, subst}
use Rattle.std.proofs.lemmas.List.Elements.{All-head, All-tail}
use Rattle.std.proofs.lemmas.Option.{slice_get_read}
use Rattle.std.specs.Option.{option_map}
use Rattle.bench_model.specs.declared.database.Kind.{Kind}
use Rattle.bench_model.specs.declared.database.Kind.TheVariants as kind
use Rattle.bench_model.specs.declared.reading.Ask.{Ask}
use Rattle.bench_model.specs.declared.reading.Ask.TheVariants as ask
use Rattle.bench_model.specs.declared.database.Message.{Message}
use Rattle.bench_model.specs.declared.database.Bus.{Bus}
use Rattle.bench_model.specs.declared.database.Bench.{Bench}
use Rattle.bench_model.specs.Check.{IsValid}
use Rattle.bench_model.specs.Decodable.{IsDecodable}
use Rattle.bench_model.proofs.ValidLaws.{decodable}
use Rattle.bench_model.specs.Meaning.{has_key, is_in_group, group_of, group_match, or_else, matching, message_meaning, bench_meaning}

one_step : {X : Type 0} (b : Bool) (P : X → Type 0) (x : X) (o : Option X) → P x → IfSome o P → IfSome (cond b (Some x) o) P
one_step true P x o h k = h
one_step false P x o h k = k

-- what is found has what each element has
pub IfSome-find : {X : Type 0} (p : X → Bool) (P : X → Type 0) (xs : List X) → All P xs → IfSome (find p xs) P
IfSome-find p P [] h = tt
IfSome-find p P (x ∷ xs) h = one_step (p x) P x (find p xs) (All-head P x xs h) (IfSome-find p P xs (All-tail P x xs h))

IfSome-or_else : {X : Type 0} (P : X → Type 0) (a b : Option X) → IfSome a P → IfSome b P → IfSome (or_else a b) P
IfSome-or_else P (Some x) b h k = h
IfSome-or_else P None b h k = k

IfSome-group_match : (P : Message → Type 0) (extended : Bool) (id : ℕ) (ms : List Message) → All P ms → IfSome (group_match extended id ms) P
IfSome-group_match P true id ms h = IfSome-find (is_in_group (group_of id)) P ms h
IfSome-group_match P false id ms h = tt

-- the message that is asked for has what each message has
pub IfSome-matching : (P : Message → Type 0) (k : Kind) (asked : Ask) (ms : List Message) → All P ms → IfSome (matching k asked ms) P
IfSome-matching P kind.J1939 (ask.Frame key) ms h =
    IfSome-or_else P _ _ (IfSome-find (has_key key) P ms h) (IfSome-group_match P key.extended key.id ms h)
IfSome-matching P kind.J1939 (ask.Group pgn) ms h = IfSome-find (is_in_group pgn) P ms h
IfSome-matching P kind.Can (ask.Frame key) ms h = IfSome-find (has_key key) P ms h
IfSome-matching P kind.Can (ask.Group pgn) ms h = tt
IfSome-matching P kind.Lin (ask.Frame key) ms h = IfSome-find (has_key key) P ms h
IfSome-matching P kind.Lin (ask.Group pgn) ms h = tt

-- the same of one that was found
pub from_IfSome : {X : Type 0} (P : X → Type 0) (o : Option X) (x : X) → Some x ≡ o → IfSome o P → P x
from_IfSome P o x e h = rw (← e) at h

-- the meaning on a bus that is at this place
pub meaning_at : (bench : Bench) (place : ℕ) (bus : Bus) (buses : List Bus) (messages : List Message) (asked : Ask) (bytes : List ℕ) (o : Option Message) →
    place < length bench.buses → buses ≡ bench.buses → bus ≡ get_or buses place bus → messages ≡ bus.database.messages → o ≡ matching bus.kind asked messages →
    bench_meaning bench place asked bytes ≡ option_map (message_meaning bytes) o
meaning_at bench place bus buses messages asked bytes o h same e same_messages m =
    rw (slice_get_read bench.buses (length bench.buses) place bus refl h (e ∙ ap (λ (xs : List Bus). get_or xs place bus) same))
    (rw (m, same_messages) refl)

-- the messages of a bus of a valid bench can be decoded
pub decodable_at : (bench : Bench) (place : ℕ) (bus : Bus) (buses : List Bus) (messages : List Message) →
    place < length bench.buses → buses ≡ bench.buses → bus ≡ get_or buses place bus → messages ≡ bus.database.messages →
    All (λ b. IsValid b.database) bench.buses → All IsDecodable messages
decodable_at bench place bus buses messages h same e same_messages valid =
    let P : Bus → Type 0 = λ b. IsValid b.database in
    rw same_messages (decodable bus.database (subst P (sym (e ∙ ap (λ (xs : List Bus). get_or xs place bus) same)) (valid place bus h)))
