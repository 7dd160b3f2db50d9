-- A database has no fault exactly where no message and no signal breaks a rule.
use Rattle.std.proofs.Common.{◌≡◌, ◌∙◌, ap, ℕ, zero, suc, ◌+◌, ◌<◌, List, [], ◌∷◌, ◌++◌, length, get_or, Bool, true, false, cond, refl, arith}
use Rattle.std.specs.List.{flat_map, enumerate_from}
use Rattle.std.proofs.Common.{zero-add}
use Rattle.std.proofs.lemmas.List.{nil_from_length}
use Rattle.bench_model.specs.declared.fault.CheckWhy.{CheckWhy}
use Rattle.bench_model.specs.declared.fault.CheckWhy.TheVariants.{Size, DuplicateMessage, DuplicateSignal, Float, Limit}
use Rattle.bench_model.specs.declared.fault.CheckFault.{CheckFault}
use Rattle.bench_model.specs.declared.database.Signal.{Signal}
use Rattle.bench_model.specs.declared.database.Message.{Message}
use Rattle.bench_model.specs.declared.database.Database.{Database}
use Rattle.bench_model.specs.Check.{message_breaks, signal_breaks, own_faults, signal_faults, message_faults, database_faults, faults_by, all_faults, IsValid}
use Rattle.bench_model.proofs.ValidLaws.{left_empty, right_empty}

-- where the elements of a list give nothing together, each gives nothing, and the other way round
each_gives_none : {X : Type 0} (f : ℕ × X → List CheckFault) (n : ℕ) (xs : List X) →
    flat_map f (enumerate_from n xs) ≡ [] →
    (k : ℕ) (d : X) → k < length xs → f (n + k, get_or xs k d) ≡ []
each_gives_none f n [] e k d h = absurd (omega arith)
each_gives_none f n (x ∷ xs) e zero d h =
    let same : n + 0 ≡ n = omega arith in
    rw same (left_empty (f (n, x)) (flat_map f (enumerate_from (n + 1) xs)) e)
each_gives_none f n (x ∷ xs) e (suc k) d h =
    let same : n + suc k ≡ n + 1 + k = omega arith in
    rw same (each_gives_none f (n + 1) xs
    (right_empty (f (n, x)) (flat_map f (enumerate_from (n + 1) xs)) e) k d (omega arith))

none_together : {X : Type 0} (f : ℕ × X → List CheckFault) (n : ℕ) (xs : List X) →
    ((k : ℕ) (d : X) → k < length xs → f (n + k, get_or xs k d) ≡ []) → flat_map f (enumerate_from n xs) ≡ []
none_together f n [] g = refl
none_together f n (x ∷ xs) g =
    let same : n + 0 ≡ n = omega arith in
    let first : f (n, x) ≡ [] = rw same at (g 0 x (omega arith)) in
    rw first (none_together f (n + 1) xs (λ k d h. let next : n + suc k ≡ n + 1 + k = omega arith in
    rw next at (g (suc k) d (omega arith))))

pub left_out : {X : Type 0} (b : Bool) (x : X) → cond b (x ∷ []) [] ≡ [] → b ≡ false
left_out true x e = cc
left_out false x e = refl

pub out : {X : Type 0} (b : Bool) (x : X) → b ≡ false → cond b (x ∷ []) [] ≡ []
out b x e = rw e refl

-- a message that keeps a rule, with all its signals
pub record IsUnbrokenMessage (why : CheckWhy) (ms : List Message) (i : ℕ) (m : Message) : Type 0 where
  pub own : message_breaks why ms i m ≡ false
  pub each : (j : ℕ) (d : Signal) → j < length m.signals →
      signal_breaks why m j (get_or m.signals j d) ≡ false

-- a rule that no message breaks
pub record IsUnbroken (why : CheckWhy) (ms : List Message) : Type 0 where
  pub whole : database_faults why ms ≡ []
  pub each : (i : ℕ) (d : Message) → i < length ms → IsUnbrokenMessage why ms i (get_or ms i d)

message_unbroken : (why : CheckWhy) (ms : List Message) (i : ℕ) (m : Message) →
    message_faults why ms (i, m) ≡ [] → IsUnbrokenMessage why ms i m
unfolding message_faults
message_unbroken why ms i m e = record {
  own = left_out _ _
      (left_empty (own_faults why ms i m) (flat_map (signal_faults why m) (enumerate_from 0 m.signals)) e);
  each = λ j d h.
      let none = each_gives_none (signal_faults why m) 0 m.signals
      (right_empty (own_faults why ms i m)
      (flat_map (signal_faults why m) (enumerate_from 0 m.signals)) e) j d h in
      left_out (signal_breaks why m j (get_or m.signals j d)) _ (rw (zero-add j) at none);
}

message_faultless : (why : CheckWhy) (ms : List Message) (i : ℕ) (m : Message) →
    IsUnbrokenMessage why ms i m → message_faults why ms (i, m) ≡ []
unfolding message_faults
message_faultless why ms i m u =
    ap (λ ys. ys ++ flat_map (signal_faults why m) (enumerate_from 0 m.signals))
    (out (message_breaks why ms i m) _ u.own)
    ∙ none_together (signal_faults why m) 0 m.signals
    (λ j d h. rw (zero-add j) (out (signal_breaks why m j (get_or m.signals j d)) _ (u.each j d h)))

unbroken : (why : CheckWhy) (ms : List Message) → faults_by ms why ≡ [] → IsUnbroken why ms
unfolding faults_by
unbroken why ms e = record {
  whole = left_empty (database_faults why ms) _ e;
  each = λ i d h.
      let none = each_gives_none (message_faults why ms) 0 ms
      (right_empty (database_faults why ms) _ e) i d h in
      message_unbroken why ms i (get_or ms i d) (rw (zero-add i) at none);
}

faultless : (why : CheckWhy) (ms : List Message) → IsUnbroken why ms → faults_by ms why ≡ []
unfolding faults_by
faultless why ms u =
    ap (λ ys. ys ++ flat_map (message_faults why ms) (enumerate_from 0 ms)) u.whole
    ∙ none_together (message_faults why ms) 0 ms
    (λ i d h. rw (zero-add i) (message_faultless why ms i (get_or ms i d) (u.each i d h)))

-- no rule is broken
pub record AreUnbroken (ms : List Message) : Type 0 where
  pub sizes : IsUnbroken Size ms
  pub keys : IsUnbroken DuplicateMessage ms
  pub names : IsUnbroken DuplicateSignal ms
  pub floats : IsUnbroken Float ms
  pub limits : IsUnbroken Limit ms

pub all_unbroken : (d : Database) → IsValid d → AreUnbroken d.messages
all_unbroken d v =
    let none = nil_from_length (all_faults d.messages) v.faultless in
    let after_sizes = right_empty (faults_by d.messages Size) _ none in
    let after_keys = right_empty (faults_by d.messages DuplicateMessage) _ after_sizes in
    let after_names = right_empty (faults_by d.messages DuplicateSignal) _ after_keys in
    let after_floats = right_empty (faults_by d.messages Float) _ after_names in
    record {
      sizes = unbroken Size d.messages (left_empty (faults_by d.messages Size) _ none);
      keys = unbroken DuplicateMessage d.messages
          (left_empty (faults_by d.messages DuplicateMessage) _ after_sizes);
      names = unbroken DuplicateSignal d.messages
          (left_empty (faults_by d.messages DuplicateSignal) _ after_keys);
      floats = unbroken Float d.messages (left_empty (faults_by d.messages Float) _ after_names);
      limits = unbroken Limit d.messages (left_empty (faults_by d.messages Limit) _ after_floats);
    }

pub all_faultless : (d : Database) → AreUnbroken d.messages → length (all_faults d.messages) ≡ 0
all_faultless d u =
    rw (faultless Size d.messages u.sizes)
    (rw (faultless DuplicateMessage d.messages u.keys) (rw (faultless DuplicateSignal d.messages u.names)
    (rw (faultless Float d.messages u.floats) (rw (faultless Limit d.messages u.limits) refl))))
