-- The lines of a text that were read are in the draft, and those left are behind them.
use Rattle.std.proofs.Common.{◌≡◌, ℕ, ◌+◌, ◌<◌, ◌≤◌, List, [], ◌∷◌, ◌++◌, length, map, refl, sym, ap, ◌∙◌, arith, append_assoc}
use Rattle.std.proofs.lemmas.List.{append-nil, length-append}
use Rattle.text_words.specs.TextLines.{without_returns, text_lines}
use Rattle.byte_forms.specs.Lines.{all_lines}
use Rattle.bench_file.specs.declared.draft.Draft.{Draft}
use Rattle.bench_file.specs.LineMeaning.{LineMeaning, meaning_of}
use Rattle.bench_file.specs.PlanOf.{meanings_of, KeepRules, IsFirstFault}
use Rattle.bench_file.specs.ReadingView.{Drafts}
use Rattle.bench_file.proofs.FaultLaws.{fault_found}

pub record Reads (bytes rest : List ℕ) (draft : Draft) (number : ℕ) : Type 0 where
  pub done : List LineMeaning
  pub whole : meanings_of bytes ≡ done ++ meanings_of rest
  pub kept : Drafts draft done
  pub counted : number ≡ length done
  pub short : number + length rest ≤ length bytes

pub reads_none : (bytes : List ℕ) (draft : Draft) → Drafts draft [] → Reads bytes bytes draft 0
reads_none bytes draft d = record { done = []; whole = refl; kept = d; counted = refl; short = omega arith }

split_line : (done : List LineMeaning) (bytes rest line behind : List ℕ) → meanings_of bytes ≡ done ++ meanings_of rest → text_lines rest ≡ line ∷ text_lines behind
    → meanings_of bytes ≡ done ++ meaning_of line ∷ meanings_of behind
split_line done bytes rest line behind whole cut = whole ∙ ap (λ ls. done ++ map meaning_of ls) cut

pub reads_more : (bytes rest line behind : List ℕ) (draft now : Draft) (number : ℕ) (r : Reads bytes rest draft number) → text_lines rest ≡ line ∷ text_lines behind → length behind < length rest
    → ((lines : List LineMeaning) → Drafts draft lines → Drafts now (lines ++ meaning_of line ∷ [])) → Reads bytes behind now (number + 1)
reads_more bytes rest line behind draft now number r cut shorter adds = record {
  done = r.done ++ meaning_of line ∷ [];
  whole = split_line r.done bytes rest line behind r.whole cut ∙ sym (append_assoc r.done (meaning_of line ∷ []) (meanings_of behind));
  kept = adds r.done r.kept;
  counted = ap (λ n. n + 1) r.counted ∙ sym (length-append r.done (meaning_of line ∷ []));
  short = omega (arith, r.short);
}

pub reads_fault : (bytes rest line behind : List ℕ) (draft : Draft) (number : ℕ) → Reads bytes rest draft number → text_lines rest ≡ line ∷ text_lines behind
    → ((lines : List LineMeaning) → Drafts draft lines → KeepRules (lines ++ meaning_of line ∷ []) → ⊥) → IsFirstFault (meanings_of bytes) (number + 1)
reads_fault bytes rest line behind draft number r cut breaks =
    fault_found (meanings_of bytes) r.done (meaning_of line) (meanings_of behind) (number + 1) (split_line r.done bytes rest line behind r.whole cut) (ap (λ n. n + 1) r.counted) r.kept.rules
    (breaks r.done r.kept)

pub reads_all : (bytes rest : List ℕ) (draft : Draft) (number : ℕ) → Reads bytes rest draft number → rest ≡ [] → Drafts draft (meanings_of bytes)
unfolding without_returns all_lines
reads_all bytes rest draft number r end =
    let none : meanings_of rest ≡ [] = rw end refl in
    rw (r.whole, none, append-nil r.done) r.kept
