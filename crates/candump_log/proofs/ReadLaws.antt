-- The lines that were read one after another are the first of the log, all of them at its end, and the whole lines of the
-- bytes taken where it stopped.
use Rattle.std.proofs.Common.{◌≡◌, ℕ, ◌-◌, ◌≤◌, List, [], ◌∷◌, ◌++◌, length, Option, None, Some, IfSome, Ok, Err, refl, sym, ap, subst, ◌∙◌, append_assoc, length-append, lit≤, arith}
use Rattle.std.proofs.lemmas.List.{append-nil, drop_at}
use Rattle.std.proofs.lemmas.Option.{none-some, same_Some}
use Rattle.std.specs.Option.{option_map}
use Rattle.std.specs.Io.KnownBytes.{prepend_known, append_known}
use Rattle.byte_forms.specs.Lines.{all_lines}
use Rattle.candump_log.specs.declared.log_line.LogLine.{LogLine}
use Rattle.candump_log.specs.declared.place.LinesRefused.{LinesRefused}
use Rattle.candump_log.specs.LineOf.{line_of}
use Rattle.candump_log.specs.LogLines.{whole_lines}
use Rattle.candump_log.specs.LinesState.{LinesState, log_limit, last_bytes, log_by, log_taken, joined, log_of, fresh}
use Rattle.candump_log.specs.NextLine.{NextLine, Took, IsPrefix, Advances, GivesNone, HasEnded, HasStopped}
use Rattle.candump_log.specs.Reads.{TakesBytes, Reads}

append_known-append : (o : Option (List ℕ)) (xs ys : List ℕ) → append_known (append_known o xs) ys ≡ append_known o (xs ++ ys)
append_known-append None xs ys = refl
append_known-append (Some zs) xs ys = ap (λ (l : List ℕ). Some l) (append_assoc zs xs ys)

append_known-nil : (o : Option (List ℕ)) → o ≡ append_known o []
append_known-nil None = refl
append_known-nil (Some zs) = ap (λ (l : List ℕ). Some l) (sym (append-nil zs))

prepend_known-nil : (o : Option (List ℕ)) → o ≡ prepend_known [] o
prepend_known-nil None = refl
prepend_known-nil (Some bytes) = refl

prepend_known-append : (o : Option (List ℕ)) (xs ys : List ℕ) → prepend_known xs (prepend_known ys o) ≡ prepend_known (xs ++ ys) o
prepend_known-append None xs ys = refl
prepend_known-append (Some bytes) xs ys = ap (λ (l : List ℕ). Some l) (sym (append_assoc xs ys bytes))

no_texts : (taken log : Option (List ℕ)) → IsPrefix (option_map (λ _. []) taken) log
no_texts None log = tt
no_texts (Some bytes) None = tt
no_texts (Some bytes) (Some log) = (all_lines log, refl)

fresh_texts : (l : LinesState) → l ≡ fresh l.source l.other → l.texts ≡ option_map (λ _. []) l.source.taken
fresh_texts l e = ap (λ (s : LinesState). s.texts) e

-- nothing was read yet
pub reads_nothing : (l : LinesState) → l ≡ fresh l.source l.other → log_of l ≡ l.source.left → Reads l l []
reads_nothing l e log = record {
  took = [];
  takes = record { left = prepend_known-nil l.source.left; taken = append_known-nil l.source.taken; limit = lit≤ tt; later = omega arith };
  count = ap (λ (s : LinesState). s.taken) e;
  texts = fresh_texts l e;
  log = log;
  start = log;
  prefix = let F : Option (List (List ℕ)) → Type 0 = λ t. IsPrefix t (log_of l) in subst F (sym (fresh_texts l e)) (no_texts l.source.taken (log_of l));
  given = omega (arith, ap (λ (s : LinesState). s.given) e);
  other = refl;
}

takes_more : (l m l' : LinesState) (took : List ℕ) (t : Took m l') → TakesBytes l.source m.source took → m.taken ≡ length took → l'.taken ≤ log_limit → m.source.read_faults ≤ l'.source.read_faults →
    TakesBytes l.source l'.source (took ++ t.bytes) × (l'.taken ≡ length (took ++ t.bytes))
takes_more l m l' took t before count limit later =
    let more : l'.taken ≡ length (took ++ t.bytes) = omega (arith, t.count, count, length-append took t.bytes) in (
      record {
        left = before.left ∙ ap (prepend_known took) t.left ∙ prepend_known-append l'.source.left took t.bytes;
        taken = t.taken ∙ ap (λ (o : Option (List ℕ)). append_known o t.bytes) before.taken ∙ append_known-append l.source.taken took t.bytes;
        limit = omega (arith, more, limit);
        later = omega (arith, before.later, later);
      },
      more,
    )

-- a call of the reader, after which these texts were read
advances : (l m l' : LinesState) (was read : List (List ℕ)) → Reads l m was → Advances m l' → l'.texts ≡ option_map (λ _. read) l.source.taken → Reads l l' read
advances l m l' was read r a texts =
    let more = takes_more l m l' r.took a.took r.takes r.count a.limit a.faults in
    record {
      took = r.took ++ a.took.bytes;
      takes = more.0;
      count = more.1;
      texts = texts;
      log = a.log ∙ r.log;
      start = r.start;
      prefix = a.prefix;
      given = omega (arith, a.given, a.limit);
      other = a.other ∙ r.other;
    }

one_text_more : (o : Option (List ℕ)) (read : List (List ℕ)) (text : List ℕ) → option_map (λ (texts : List (List ℕ)). texts ++ text ∷ []) (option_map (λ _. read) o) ≡ option_map (λ _. read ++ text ∷ []) o
one_text_more None read text = refl
one_text_more (Some bytes) read text = refl

-- the next line was read
pub reads_line : (l m l' : LinesState) (read : List (List ℕ)) (line : LogLine) → Reads l m read → NextLine m (Ok (Some line)) l' → (text : List ℕ) × (line ≡ line_of text) × Reads l l' (read ++ text ∷ [])
reads_line l m l' read line r n = (
  n.answer.text,
  n.answer.line_is,
  advances l m l' read (read ++ n.answer.text ∷ []) r n.advances
      (n.answer.texts ∙ ap (option_map (λ (texts : List (List ℕ)). texts ++ n.answer.text ∷ [])) r.texts ∙ one_text_more l.source.taken read n.answer.text),
)

-- no line was read
reads_none : (l m l' : LinesState) (read : List (List ℕ)) → Reads l m read → Advances m l' → GivesNone m l' → Reads l l' read
reads_none l m l' read r a none = advances l m l' read read r a (none.texts ∙ r.texts)

-- ---- the lines of the whole log

-- a log that shows its bytes left shows those taken
some_taken : (taken left : Option (List ℕ)) (n : ℕ) (bytes : List ℕ) → joined (log_by n taken) left ≡ Some bytes → taken ≡ None → ⊥
some_taken taken left n bytes j e = none-some _ (sym (ap (λ (o : Option (List ℕ)). joined (log_by n o) left) e) ∙ j)

-- the lines that were read are the first of the log's lines
unread_behind : (taken log left : Option (List ℕ)) (texts : Option (List (List ℕ))) (n : ℕ) (read : List (List ℕ)) → texts ≡ option_map (λ _. read) taken → log ≡ left → joined (log_by n taken) left ≡ left → IsPrefix texts log →
    (unread : List (List ℕ)) × IfSome left (λ bytes. read ++ unread ≡ all_lines bytes)
unread_behind taken log None texts n read t e j prefix = ([], tt)
unread_behind None log (Some bytes) texts n read t e j prefix = absurd (none-some _ j)
unread_behind (Some took) log (Some bytes) texts n read t e j prefix =
    let F : Option (List (List ℕ)) → Type 0 = λ o. IsPrefix o log in
    let G : Option (List ℕ) → Type 0 = λ o. IsPrefix (Some read) o in
    let f = subst G e (subst F t prefix) in
    (f.0, sym f.1)

pub unread : (l l' : LinesState) (read : List (List ℕ)) → Reads l l' read → (unread : List (List ℕ)) × IfSome l.source.left (λ bytes. read ++ unread ≡ all_lines bytes)
unread l l' read r = unread_behind l.source.taken (log_of l') l.source.left l'.texts l.taken read r.texts r.log r.start r.prefix

-- at the end of the log all its lines were read
joined_to_end : (taken left : Option (List ℕ)) (bytes : List ℕ) → IfSome left (λ left. left ≡ []) → joined taken left ≡ Some bytes → taken ≡ Some bytes
joined_to_end None left bytes e j = absurd (none-some _ j)
joined_to_end (Some took) None bytes e j = absurd (none-some _ j)
joined_to_end (Some took) (Some left) bytes e j = ap (λ (l : List ℕ). Some l) (sym (append-nil took) ∙ ap (λ (l : List ℕ). took ++ l) (sym e)) ∙ j

all_lines_read : (before log_now taken left now_left : Option (List ℕ)) (texts : Option (List (List ℕ))) (n : ℕ) (read : List (List ℕ)) → texts ≡ option_map (λ _. read) before → joined log_now now_left ≡ left
    → joined (log_by n before) left ≡ left → IfSome now_left (λ left. left ≡ []) → texts ≡ option_map all_lines log_now → IfSome left (λ bytes. read ≡ all_lines bytes)
all_lines_read before log_now taken None now_left texts n read t e j end all = tt
all_lines_read None log_now taken (Some bytes) now_left texts n read t e j end all = absurd (none-some _ j)
all_lines_read (Some took) log_now taken (Some bytes) now_left texts n read t e j end all =
    same_Some _ _ (sym t ∙ all ∙ ap (option_map all_lines) (joined_to_end log_now now_left bytes end e))

read_all : (l l' : LinesState) (read : List (List ℕ)) → Reads l l' read → HasEnded l' → IfSome l.source.left (λ bytes. read ≡ all_lines bytes)
read_all l l' read r h = all_lines_read l.source.taken (log_taken l') None l.source.left l'.source.left l'.texts l.taken read r.texts r.log r.start h.left h.all

-- where the log stopped its whole lines were read
last_taken : (before took : List ℕ) (n : ℕ) → n ≡ length took → last_bytes n (before ++ took) ≡ took
last_taken before took n e =
    let all : length (before ++ took) - n ≡ length before = omega (arith, e, length-append before took) in
    drop_at before took (length (before ++ took) - n) (sym all)

whole_lines_read : (left before now : Option (List ℕ)) (texts : Option (List (List ℕ))) (n k : ℕ) (read : List (List ℕ)) (took : List ℕ) → texts ≡ option_map (λ _. read) before → joined (log_by n before) left ≡ left
    → now ≡ append_known before took → k ≡ length took → texts ≡ option_map whole_lines (log_by k now) → IfSome left (λ _. read ≡ whole_lines took)
whole_lines_read None before now texts n k read took t j e count whole = tt
whole_lines_read (Some bytes) None now texts n k read took t j e count whole = absurd (none-some _ j)
whole_lines_read (Some bytes) (Some was) now texts n k read took t j e count whole =
    same_Some _ _ (sym t ∙ whole ∙ ap (λ (o : Option (List ℕ)). option_map whole_lines (log_by k o)) e ∙ ap (λ (l : List ℕ). Some (whole_lines l)) (last_taken was took k count))

read_whole : (l l' : LinesState) (read : List (List ℕ)) (r : Reads l l' read) → HasStopped l' → IfSome l.source.left (λ _. read ≡ whole_lines r.took)
read_whole l l' read r h = whole_lines_read l.source.left l.source.taken l'.source.taken l'.texts l.taken l'.taken read r.took r.texts r.start r.takes.taken r.count h.whole

-- ---- how the calls end

pub ends : (l m l' : LinesState) (read : List (List ℕ)) → Reads l m read → NextLine m (Ok None) l' → Reads l l' read × HasEnded l' × IfSome l.source.left (λ bytes. read ≡ all_lines bytes)
ends l m l' read r n =
    let now = reads_none l m l' read r n.advances n.answer.0 in
    (now, n.answer.1, read_all l l' read now n.answer.1)

pub stops : (l m l' : LinesState) (read : List (List ℕ)) (why : LinesRefused) → Reads l m read → NextLine m (Err why) l'
    → (now : Reads l l' read) × HasStopped l' × IfSome l.source.left (λ _. read ≡ whole_lines now.took)
stops l m l' read why r n =
    let now = reads_none l m l' read r n.advances n.answer.0 in
    (now, n.answer.1, read_whole l l' read now n.answer.1)
