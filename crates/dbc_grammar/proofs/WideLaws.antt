-- Where the signals so far have scales and the next one has none, it is the first that is too wide.
use Rattle.std.proofs.Common.{◌≡◌, ◌∙◌, sym, ap, subst, refl, arith, ℕ, zero, suc, ◌+◌, ◌<◌, ◌⊎◌, inl, inr, List, [], ◌∷◌, ◌++◌, length, get_or, take, drop, Bool, add-one}
use Rattle.std.specs.List.{enumerate_from, AllByRecursion, AllZip}
use Rattle.std.proofs.Math.Seq.{drop-cons}
use Rattle.std.proofs.lemmas.List.{take-append-drop}
use Rattle.std.proofs.lemmas.Grind.{flat_map-append}
use Rattle.decisions.specs.Decisions.{Decides}
use Rattle.decisions.specs.ListDecisions.{FirstFails}
use Rattle.exact_scale.specs.declared.scaling.Scale.{Scale}
use Rattle.bench_model.specs.declared.database.Signal.{Signal}
use Rattle.token_forms.specs.Numbers.{signed_text}
use Rattle.token_forms.specs.Scaling.{IsScaling, HasNoScaling}
use Rattle.dbc_grammar.specs.declared.fault.DbcFault.{DbcFault}
use Rattle.dbc_grammar.specs.declared.fault.DbcFault.TheVariants as faults
use Rattle.dbc_grammar.specs.declared.row.Row.{Row}
use Rattle.dbc_grammar.specs.declared.statement.SignalForm.{SignalForm}
use Rattle.dbc_grammar.specs.declared.statement.MessageForm.{MessageForm}
use Rattle.dbc_grammar.specs.Naming.{Noted}
use Rattle.dbc_grammar.specs.Gather.{IsSignalAt}
use Rattle.dbc_grammar.specs.Contract.{HasScale, IsTooWideAt, HasSomeScale, IsFirstWide, all_signals}
use Rattle.dbc_grammar.specs.Rows.{IsWideAt, IsWideFault, IsRowAt}

-- a factor and an offset have one scale, or are too wide
abbrev pub OneScale : Type 0
OneScale = (factor offset : List ℕ) (s t : Scale) → IsScaling factor offset s → IsScaling factor offset t → s ≡ t

abbrev pub SomeScale : Type 0
SomeScale = (factor offset : List ℕ) → ((scale : Scale) × IsScaling factor offset scale) ⊎ HasNoScaling factor offset

-- so has a signal
pub scales_decide : OneScale → SomeScale → (text : List ℕ) → Decides (HasScale text) (IsTooWideAt text)
scales_decide one some text = record {
  some = λ s. elim (some (signed_text text s.scaling.factor) (signed_text text s.scaling.offset)) [
    | inl scale ↦ inl scale
    | inr none ↦ inr (s.at, (refl, none))
  ];
  one = λ s a b p q. one (signed_text text s.scaling.factor) (signed_text text s.scaling.offset) a b p q;
  only = λ s a b p q. p.0 ∙ sym q.0;
  apart = λ s scale at p q. q.1 scale p;
}

-- signals each of which has a scale
abbrev pub AreScaled : List ℕ → List SignalForm → Type 0
AreScaled text forms = AllByRecursion (HasSomeScale text) forms

pub scaled-append : (text : List ℕ) (xs ys : List SignalForm) → AreScaled text xs → AreScaled text ys → AreScaled text (xs ++ ys)
scaled-append text [] ys a b = b
scaled-append text (x ∷ xs) ys a b = (a.0, scaled-append text xs ys a.1 b)

-- signals that were made have scales
pub made_scaled : (text : List ℕ) (utf8 : Bool) (noted : Noted) (named : Bool) (m : MessageForm) (n : ℕ) (forms : List SignalForm) (signals : List Signal) →
    AllZip (IsSignalAt text utf8 noted named m) (enumerate_from n forms) signals → AreScaled text forms
made_scaled text utf8 noted named m n [] signals each = tt
made_scaled text utf8 noted named m n (f ∷ forms) [] each = absurd each
made_scaled text utf8 noted named m n (f ∷ forms) (s ∷ signals) each =
    ((each.0.scale, each.0.is_scale), made_scaled text utf8 noted named m (n + 1) forms signals each.1)

pub rows_scaled : (text : List ℕ) (utf8 : Bool) (noted : Noted) (all : List MessageForm) (n : ℕ) (messages : List MessageForm) (rows : List Row) →
    AllZip (IsRowAt text utf8 noted all) (enumerate_from n messages) rows → AreScaled text (all_signals messages)
rows_scaled text utf8 noted all n [] rows each = tt
rows_scaled text utf8 noted all n (m ∷ messages) [] each = absurd each
rows_scaled text utf8 noted all n (m ∷ messages) (r ∷ rows) each =
    scaled-append text m.signals (all_signals messages)
    (made_scaled text utf8 noted _ m 0 m.signals r.signals.items each.0.signals)
    (rows_scaled text utf8 noted all (n + 1) messages rows each.1)

-- the list around one of its elements
pub cut_at : {A : Type 0} (xs : List A) (i : ℕ) (d : A) → i < length xs → xs ≡ take i xs ++ get_or xs i d ∷ drop (i + 1) xs
cut_at xs i d below =
    sym (take-append-drop i xs) ∙ ap (λ l. take i xs ++ l) (drop-cons xs i d below)
    ∙ ap (λ k. take i xs ++ get_or xs i d ∷ drop k xs) (sym (add-one i))

-- the first of signals that is too wide, at a place, behind others and before others
first_at : (text : List ℕ) (forms : List SignalForm) (i : ℕ) (d : SignalForm) (at : ℕ) → i < length forms → AreScaled text (take i forms) →
    IsTooWideAt text (get_or forms i d) at → IsFirstWide text forms at
first_at text [] i d at below scaled wide = absurd (omega arith)
first_at text (f ∷ forms) zero d at below scaled wide = (0, wide)
first_at text (f ∷ forms) (suc i) d at below scaled wide =
    let later = first_at text forms i d at (omega arith) scaled.1 wide in (suc later.0, (scaled.0, later.1))

first_behind : (text : List ℕ) (xs ys : List SignalForm) (at : ℕ) → AreScaled text xs → IsFirstWide text ys at → IsFirstWide text (xs ++ ys) at
first_behind text [] ys at scaled wide = wide
first_behind text (x ∷ xs) ys at scaled wide =
    let later = first_behind text xs ys at scaled.1 wide in (suc later.0, (scaled.0, later.1))

first_before : (text : List ℕ) (xs ys : List SignalForm) (n at : ℕ) → FirstFails (HasScale text) (IsTooWideAt text) xs n at →
    FirstFails (HasScale text) (IsTooWideAt text) (xs ++ ys) n at
first_before text [] ys n at wide = absurd wide
first_before text (x ∷ xs) ys zero at wide = wide
first_before text (x ∷ xs) ys (suc n) at wide = (wide.0, first_before text xs ys n at wide.1)

-- signals that have scales have none that is too wide
pub never_wide : (text : List ℕ) (forms : List SignalForm) (n at : ℕ) → AreScaled text forms →
    ¬ FirstFails (HasScale text) (IsTooWideAt text) forms n at
never_wide text [] n at scaled wide = wide
never_wide text (f ∷ forms) zero at scaled wide = wide.1 scaled.0.0 scaled.0.1
never_wide text (f ∷ forms) (suc n) at scaled wide = never_wide text forms n at scaled.1 wide.1

-- the fault of one signal is that of its message
pub signal_is_first : (text : List ℕ) (forms : List SignalForm) (i : ℕ) (d : SignalForm) (fault : DbcFault) → i < length forms →
    AreScaled text (take i forms) → IsWideAt text (get_or forms i d) fault → IsWideFault text forms fault
signal_is_first text forms i d (faults.Scale at) below scaled wide = first_at text forms i d at below scaled wide
signal_is_first text forms i d faults.Memory below scaled wide = tt
signal_is_first text forms i d (faults.Lex fault) below scaled wide = wide
signal_is_first text forms i d (faults.Statement at) below scaled wide = wide
signal_is_first text forms i d (faults.Mux id signal why) below scaled wide = wide
signal_is_first text forms i d (faults.Check fault) below scaled wide = wide

pub signal_is_first_in : (text : List ℕ) (all forms : List SignalForm) (i : ℕ) (d : SignalForm) (fault : DbcFault) → forms ≡ all → i < length forms →
    AreScaled text (take i all) → IsWideAt text (get_or forms i d) fault → IsWideFault text all fault
signal_is_first_in text all forms i d fault same below scaled wide =
    signal_is_first text all i d fault (subst (λ (fs : List SignalForm). i < length fs) same below) scaled
    (subst (λ (fs : List SignalForm). IsWideAt text (get_or fs i d) fault) same wide)

-- and that of a message is that of all messages
pub message_is_first : (text : List ℕ) (messages : List MessageForm) (i : ℕ) (d : MessageForm) (fault : DbcFault) → i < length messages →
    AreScaled text (all_signals (take i messages)) → IsWideFault text (get_or messages i d).signals fault → IsWideFault text (all_signals messages) fault
message_is_first text messages i d (faults.Scale at) below scaled wide =
    let m = get_or messages i d in
    let prefix = all_signals (take i messages) in
    let back = all_signals (drop (i + 1) messages) in
    let cut : all_signals messages ≡ prefix ++ (m.signals ++ back) =
    ap all_signals (cut_at messages i d below) ∙ flat_map-append (λ (x : MessageForm). x.signals) (take i messages) (m ∷ drop (i + 1) messages) in
    subst (λ (l : List SignalForm). IsFirstWide text l at) (sym cut)
    (first_behind text prefix (m.signals ++ back) at scaled (wide.0, first_before text m.signals back wide.0 at wide.1))
message_is_first text messages i d faults.Memory below scaled wide = tt
message_is_first text messages i d (faults.Lex fault) below scaled wide = wide
message_is_first text messages i d (faults.Statement at) below scaled wide = wide
message_is_first text messages i d (faults.Mux id signal why) below scaled wide = wide
message_is_first text messages i d (faults.Check fault) below scaled wide = wide

pub message_is_first_in : (text : List ℕ) (messages : List MessageForm) (i : ℕ) (m : MessageForm) (fault : DbcFault) → i < length messages →
    m ≡ get_or messages i m → AreScaled text (all_signals (take i messages)) → IsWideFault text m.signals fault → IsWideFault text (all_signals messages) fault
message_is_first_in text messages i m fault below there scaled wide =
    message_is_first text messages i m fault below scaled (subst (λ (x : MessageForm). IsWideFault text x.signals fault) there wide)
