-- The first fault of all is the first fault of the rest, where those before have none.
use Rattle.std.proofs.Common.{◌≡◌, ◌∙◌, sym, ap, subst, ℕ, ◌+◌, ◌<◌, ◌≤◌, List, [], ◌∷◌, ◌++◌, length, get_or, drop, Bool, true, false, cond, ltb, Some, None, refl}
use Rattle.std.specs.Prelude.{Result, Ok, Err, IsErrAnd}
use Rattle.std.specs.List.{flat_map, enumerate_from}
use Rattle.std.proofs.lemmas.List.{drop_more, drop_all}
use Rattle.bench_model.specs.declared.fault.CheckWhy.{CheckWhy}
use Rattle.bench_model.specs.declared.fault.CheckWhy.TheVariants.{Limit}
use Rattle.bench_model.specs.declared.fault.CheckFault.{CheckFault}
use Rattle.bench_model.specs.declared.fault.CheckFault.TheVariants.{At, Memory}
use Rattle.bench_model.specs.declared.database.Signal.{Signal}
use Rattle.bench_model.specs.declared.database.Message.{Message}
use Rattle.bench_model.specs.Limits.{most_messages}
use Rattle.bench_model.specs.Check.{message_breaks, signal_breaks, own_faults, signal_faults, message_faults, database_faults, faults_by}
use Rattle.bench_model.specs.Verdict.{IsFirstOf, IsVerdict}

-- the first of a list is the first of all, where it begins with that list
pub IsFirstOf-append : (xs ys : List CheckFault) (e : CheckFault) → IsFirstOf xs e → IsFirstOf (xs ++ ys) e
IsFirstOf-append xs ys Memory h = tt
IsFirstOf-append [] ys (At why message signal) h = cc
IsFirstOf-append (x ∷ xs) ys (At why message signal) h = h

-- or where nothing is before that list
pub IsFirstOf-after : (xs ys : List CheckFault) (e : CheckFault) → xs ≡ [] → IsFirstOf ys e →
    IsFirstOf (xs ++ ys) e
IsFirstOf-after xs ys e none h = rw none h

-- a fault that is passed on
pub passed_on : (r : Result (Unit {0}) CheckFault) (e : CheckFault) (faults : List CheckFault) →
    IsErrAnd r (λ f. f ≡ e) → IsFirstOf faults e →
    IsVerdict faults r
passed_on (Ok u) e faults h first = absurd h
passed_on (Err f) e faults h first = rw h first

-- the faults of the elements from this place on
abbrev pub faults_from : {X : Type 0} → (ℕ × X → List CheckFault) → List X → ℕ → List CheckFault
faults_from f xs i = flat_map f (enumerate_from i (drop i xs))

at_place : {X : Type 0} (f : ℕ × X → List CheckFault) (xs : List X) (i : ℕ) (d : X) → i < length xs →
    faults_from f xs i ≡ f (i, get_or xs i d) ++ faults_from f xs (i + 1)
at_place f xs i d h = rw (drop_more xs i d h) refl

none_at : {X : Type 0} (f : ℕ × X → List CheckFault) (xs : List X) (i : ℕ) (x : X) → i < length xs →
    x ≡ get_or xs i x →
    f (i, x) ≡ [] → faults_from f xs i ≡ faults_from f xs (i + 1)
none_at f xs i x h is none =
    at_place f xs i x h ∙ ap (λ y. f (i, y) ++ faults_from f xs (i + 1)) (sym is)
    ∙ ap (λ ys. ys ++ faults_from f xs (i + 1)) none

first_at : {X : Type 0} (f : ℕ × X → List CheckFault) (xs : List X) (i : ℕ) (x : X) (e : CheckFault) →
    i < length xs → x ≡ get_or xs i x →
    IsFirstOf (f (i, x)) e → IsFirstOf (faults_from f xs i) e
first_at f xs i x e h is here =
    let P : List CheckFault → Type 0 = λ ys. IsFirstOf ys e in
    subst P (sym (at_place f xs i x h ∙ ap (λ y. f (i, y) ++ faults_from f xs (i + 1)) (sym is)))
    (IsFirstOf-append (f (i, x)) (faults_from f xs (i + 1)) e here)

none_left : {X : Type 0} (f : ℕ × X → List CheckFault) (xs : List X) (i : ℕ) → length xs ≤ i →
    faults_from f xs i ≡ []
none_left f xs i h = rw (drop_all i xs h) refl

-- a fault that is there where a rule is broken
there : {X : Type 0} (b : Bool) (x : X) → b ≡ true → cond b (x ∷ []) [] ≡ x ∷ []
there b x h = rw h refl

not_there : {X : Type 0} (b : Bool) (x : X) → b ≡ false → cond b (x ∷ []) [] ≡ []
not_there b x h = rw h refl

-- no signal before this place breaks the rule
pub record SignalsKeep (why : CheckWhy) (m : Message) (j : ℕ) : Type 0 where
  pub rest : flat_map (signal_faults why m) (enumerate_from 0 m.signals) ≡
      faults_from (signal_faults why m) m.signals j

pub signals_begin : (why : CheckWhy) (m : Message) → SignalsKeep why m 0
signals_begin why m = record { rest = refl }

pub signals_go_on : (why : CheckWhy) (m : Message) (ss : List Signal) (j : ℕ) (s : Signal) → ss ≡ m.signals →
    SignalsKeep why m j →
    j < length ss → s ≡ get_or ss j s → signal_breaks why m j s ≡ false → SignalsKeep why m (j + 1)
signals_go_on why m ss j s same before h is keeps =
    let within : j < length m.signals = rw same at h in
    let there_is : s ≡ get_or m.signals j s = is ∙ ap (λ (ys : List Signal). get_or ys j s) same in
    record {
      rest = before.rest
          ∙ none_at (signal_faults why m) m.signals j s within there_is
          (not_there (signal_breaks why m j s) _ keeps);
    }

-- a message that breaks the rule itself
pub message_breaks_it : (why : CheckWhy) (ms : List Message) (i : ℕ) (m : Message) →
    message_breaks why ms i m ≡ true →
    IsFirstOf (message_faults why ms (i, m)) (At why (Some m.key) None)
unfolding message_faults
message_breaks_it why ms i m h = rw h refl

-- a message whose signal breaks the rule, and no earlier one and not the message itself
pub signal_breaks_it : (why : CheckWhy) (ms : List Message) (i : ℕ) (m : Message) (ss : List Signal) (j : ℕ)
    (s : Signal) (e : CheckFault) →
    ss ≡ m.signals → message_breaks why ms i m ≡ false → SignalsKeep why m j → j < length ss →
    s ≡ get_or ss j s →
    signal_breaks why m j s ≡ true → IsFirstOf (At why (Some m.key) (Some s.name) ∷ []) e →
    IsFirstOf (message_faults why ms (i, m)) e
unfolding message_faults
signal_breaks_it why ms i m ss j s e same own before h is breaks names =
    let P : List CheckFault → Type 0 = λ ys. IsFirstOf ys e in
    let within : j < length m.signals = rw same at h in
    let there_is : s ≡ get_or m.signals j s = is ∙ ap (λ (ys : List Signal). get_or ys j s) same in
    IsFirstOf-after (own_faults why ms i m) _ e (not_there (message_breaks why ms i m) _ own)
    (subst P (sym before.rest)
    (first_at (signal_faults why m) m.signals j s e within there_is
    (subst P (sym (there (signal_breaks why m j s) _ breaks)) names)))

-- a message that keeps the rule, with all its signals
pub message_keeps : (why : CheckWhy) (ms : List Message) (i : ℕ) (m : Message) (ss : List Signal) (j : ℕ) →
    ss ≡ m.signals → message_breaks why ms i m ≡ false → SignalsKeep why m j → length ss ≤ j →
    message_faults why ms (i, m) ≡ []
unfolding message_faults
message_keeps why ms i m ss j same own before h =
    let past : length m.signals ≤ j = rw same at h in
    ap (λ ys. ys ++ flat_map (signal_faults why m) (enumerate_from 0 m.signals))
    (not_there (message_breaks why ms i m) _ own)
    ∙ before.rest ∙ none_left (signal_faults why m) m.signals j past

-- no message before this place breaks the rule, nor does a signal of one
pub record MessagesKeep (why : CheckWhy) (ms : List Message) (i : ℕ) : Type 0 where
  pub rest : flat_map (message_faults why ms) (enumerate_from 0 ms) ≡ faults_from (message_faults why ms) ms i

pub messages_begin : (why : CheckWhy) (ms : List Message) → MessagesKeep why ms 0
messages_begin why ms = record { rest = refl }

pub messages_go_on : (why : CheckWhy) (ms : List Message) (i : ℕ) (m : Message) → MessagesKeep why ms i →
    i < length ms →
    m ≡ get_or ms i m → message_faults why ms (i, m) ≡ [] → MessagesKeep why ms (i + 1)
messages_go_on why ms i m before h is keeps =
    record { rest = before.rest ∙ none_at (message_faults why ms) ms i m h is keeps }

-- the first fault by a rule is that of the first message that has one
pub message_has_it : (why : CheckWhy) (ms : List Message) (i : ℕ) (m : Message) (e : CheckFault) →
    database_faults why ms ≡ [] →
    MessagesKeep why ms i → i < length ms → m ≡ get_or ms i m → IsFirstOf (message_faults why ms (i, m)) e →
    IsFirstOf (faults_by ms why) e
unfolding faults_by
message_has_it why ms i m e own before h is here =
    let P : List CheckFault → Type 0 = λ ys. IsFirstOf ys e in
    IsFirstOf-after (database_faults why ms) _ e own
    (subst P (sym before.rest) (first_at (message_faults why ms) ms i m e h is here))

-- no message has one
pub messages_keep : (why : CheckWhy) (ms : List Message) (i : ℕ) → database_faults why ms ≡ [] →
    MessagesKeep why ms i → length ms ≤ i → faults_by ms why ≡ []
unfolding faults_by
messages_keep why ms i own before h =
    ap (λ ys. ys ++ flat_map (message_faults why ms) (enumerate_from 0 ms)) own ∙ before.rest
    ∙ none_left (message_faults why ms) ms i h

-- too many messages
pub database_breaks_it : (ms : List Message) → ltb most_messages (length ms) ≡ true →
    IsFirstOf (faults_by ms Limit) (At Limit None None)
unfolding faults_by
database_breaks_it ms h = rw h refl

pub database_keeps : (ms : List Message) → ltb most_messages (length ms) ≡ false →
    database_faults Limit ms ≡ []
database_keeps ms h = not_there (ltb most_messages (length ms)) _ h
