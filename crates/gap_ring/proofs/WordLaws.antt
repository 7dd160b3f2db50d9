-- The words after a load and after a store.
use Rattle.std.proofs.Common.{◌≡◌, ◌≢◌, ℕ, ◌<◌, ◌==◌, cond, List, length, set, slice_index}
use Rattle.std.proofs.Common.{sym, ap, ◌∙◌, subst, arith, ⊎_elim, length-set, get_or-set_same, get_or-set_other, eq-eqb, ne_eqb}
use Rattle.std.proofs.lemmas.Bool.{cases_eq, cond-true, cond-false}
use Rattle.std.proofs.lemmas.List.{set-get_or}
use Rattle.gap_ring.specs.declared.view.GapWords.{GapWords}
use Rattle.gap_ring.specs.declared.view.Putting.{Putting}
use Rattle.gap_ring.specs.declared.view.Taking.{Taking}
use Rattle.gap_ring.specs.Rule.{Words, end_of, head_word, tail_word, end_word, attach_word, first_word, last_word, versions_word}

pub word_after : (ws : List ℕ) (i k n : ℕ) → i < length ws → slice_index (set ws i n) k ≡ cond (k == i) n (slice_index ws k)
word_after ws i k n below =
    ⊎_elim
    (λ (e : k ≡ i). ap (slice_index (set ws i n)) e ∙ (get_or-set_same ws i n 0 below ∙ sym (cond-true (k == i) n (slice_index ws k) (eq-eqb k i e))))
    (λ (e : k ≢ i). get_or-set_other ws i k n 0 e ∙ sym (cond-false (k == i) n (slice_index ws k) (ne_eqb k i e)))
    (cases_eq k i)

-- a load leaves them
pub words_loaded : (ws : List ℕ) (i : ℕ) (p p' : Putting) (t t' : Taking) → Words ws p t → length p'.put ≡ length p.put → end_of p' ≡ end_of p → p'.gap ≡ p.gap
    → length t'.taken ≡ length t.taken → t'.attach ≡ t.attach → Words (set ws i (slice_index ws i)) p' t'
words_loaded ws i p p' t t' h put end gap taken attach =
    subst (λ vs. Words vs p' t') (sym (set-get_or ws i 0)) record {
      wide = h.wide;
      head_is = h.head_is ∙ sym taken;
      tail_is = h.tail_is ∙ sym put;
      end_is = h.end_is ∙ sym end;
      attach_is = h.attach_is ∙ sym attach;
      first_is = h.first_is ∙ ap (λ (g : GapWords). g.first) (sym gap);
      last_is = h.last_is ∙ ap (λ (g : GapWords). g.last) (sym gap);
      versions_is = h.versions_is ∙ ap (λ (g : GapWords). g.versions) (sym gap);
    }

module _ (ws : List ℕ) (p : Putting) (t : Taking) (h : Words ws p t) (n : ℕ) where
  pub tail_stored : (p' : Putting) → n ≡ length p'.put → end_of p' ≡ end_of p → p'.gap ≡ p.gap → Words (set ws tail_word n) p' t
  tail_stored p' put end gap =
      let wide = h.wide in
      record {
        wide = length-set ws tail_word n ∙ h.wide;
        head_is = word_after ws tail_word head_word n (omega arith) ∙ h.head_is;
        tail_is = word_after ws tail_word tail_word n (omega arith) ∙ put;
        end_is = word_after ws tail_word end_word n (omega arith) ∙ (h.end_is ∙ sym end);
        attach_is = word_after ws tail_word attach_word n (omega arith) ∙ h.attach_is;
        first_is = word_after ws tail_word first_word n (omega arith) ∙ (h.first_is ∙ ap (λ (g : GapWords). g.first) (sym gap));
        last_is = word_after ws tail_word last_word n (omega arith) ∙ (h.last_is ∙ ap (λ (g : GapWords). g.last) (sym gap));
        versions_is = word_after ws tail_word versions_word n (omega arith) ∙ (h.versions_is ∙ ap (λ (g : GapWords). g.versions) (sym gap));
      }

  pub end_stored : (p' : Putting) → n ≡ end_of p' → p'.put ≡ p.put → p'.gap ≡ p.gap → Words (set ws end_word n) p' t
  end_stored p' end put gap =
      let wide = h.wide in
      record {
        wide = length-set ws end_word n ∙ h.wide;
        head_is = word_after ws end_word head_word n (omega arith) ∙ h.head_is;
        tail_is = word_after ws end_word tail_word n (omega arith) ∙ (h.tail_is ∙ ap length (sym put));
        end_is = word_after ws end_word end_word n (omega arith) ∙ end;
        attach_is = word_after ws end_word attach_word n (omega arith) ∙ h.attach_is;
        first_is = word_after ws end_word first_word n (omega arith) ∙ (h.first_is ∙ ap (λ (g : GapWords). g.first) (sym gap));
        last_is = word_after ws end_word last_word n (omega arith) ∙ (h.last_is ∙ ap (λ (g : GapWords). g.last) (sym gap));
        versions_is = word_after ws end_word versions_word n (omega arith) ∙ (h.versions_is ∙ ap (λ (g : GapWords). g.versions) (sym gap));
      }

  pub head_stored : (t' : Taking) → n ≡ length t'.taken → t'.attach ≡ t.attach → Words (set ws head_word n) p t'
  head_stored t' taken attach =
      let wide = h.wide in
      record {
        wide = length-set ws head_word n ∙ h.wide;
        head_is = word_after ws head_word head_word n (omega arith) ∙ taken;
        tail_is = word_after ws head_word tail_word n (omega arith) ∙ h.tail_is;
        end_is = word_after ws head_word end_word n (omega arith) ∙ h.end_is;
        attach_is = word_after ws head_word attach_word n (omega arith) ∙ (h.attach_is ∙ sym attach);
        first_is = word_after ws head_word first_word n (omega arith) ∙ h.first_is;
        last_is = word_after ws head_word last_word n (omega arith) ∙ h.last_is;
        versions_is = word_after ws head_word versions_word n (omega arith) ∙ h.versions_is;
      }

  pub attach_stored : (t' : Taking) → n ≡ t'.attach → t'.taken ≡ t.taken → Words (set ws attach_word n) p t'
  attach_stored t' attach taken =
      let wide = h.wide in
      record {
        wide = length-set ws attach_word n ∙ h.wide;
        head_is = word_after ws attach_word head_word n (omega arith) ∙ (h.head_is ∙ ap length (sym taken));
        tail_is = word_after ws attach_word tail_word n (omega arith) ∙ h.tail_is;
        end_is = word_after ws attach_word end_word n (omega arith) ∙ h.end_is;
        attach_is = word_after ws attach_word attach_word n (omega arith) ∙ attach;
        first_is = word_after ws attach_word first_word n (omega arith) ∙ h.first_is;
        last_is = word_after ws attach_word last_word n (omega arith) ∙ h.last_is;
        versions_is = word_after ws attach_word versions_word n (omega arith) ∙ h.versions_is;
      }

module _ (ws : List ℕ) (p : Putting) (t : Taking) (h : Words ws p t) (n : ℕ) (p' : Putting) (put : p'.put ≡ p.put) (end : end_of p' ≡ end_of p) where
  pub first_stored : p'.gap ≡ record p.gap { first = n } → Words (set ws first_word n) p' t
  first_stored gap =
      let wide = h.wide in
      record {
        wide = length-set ws first_word n ∙ h.wide;
        head_is = word_after ws first_word head_word n (omega arith) ∙ h.head_is;
        tail_is = word_after ws first_word tail_word n (omega arith) ∙ (h.tail_is ∙ ap length (sym put));
        end_is = word_after ws first_word end_word n (omega arith) ∙ (h.end_is ∙ sym end);
        attach_is = word_after ws first_word attach_word n (omega arith) ∙ h.attach_is;
        first_is = word_after ws first_word first_word n (omega arith) ∙ ap (λ (g : GapWords). g.first) (sym gap);
        last_is = word_after ws first_word last_word n (omega arith) ∙ (h.last_is ∙ ap (λ (g : GapWords). g.last) (sym gap));
        versions_is = word_after ws first_word versions_word n (omega arith) ∙ (h.versions_is ∙ ap (λ (g : GapWords). g.versions) (sym gap));
      }

  pub last_stored : p'.gap ≡ record p.gap { last = n } → Words (set ws last_word n) p' t
  last_stored gap =
      let wide = h.wide in
      record {
        wide = length-set ws last_word n ∙ h.wide;
        head_is = word_after ws last_word head_word n (omega arith) ∙ h.head_is;
        tail_is = word_after ws last_word tail_word n (omega arith) ∙ (h.tail_is ∙ ap length (sym put));
        end_is = word_after ws last_word end_word n (omega arith) ∙ (h.end_is ∙ sym end);
        attach_is = word_after ws last_word attach_word n (omega arith) ∙ h.attach_is;
        first_is = word_after ws last_word first_word n (omega arith) ∙ (h.first_is ∙ ap (λ (g : GapWords). g.first) (sym gap));
        last_is = word_after ws last_word last_word n (omega arith) ∙ ap (λ (g : GapWords). g.last) (sym gap);
        versions_is = word_after ws last_word versions_word n (omega arith) ∙ (h.versions_is ∙ ap (λ (g : GapWords). g.versions) (sym gap));
      }

  pub versions_stored : p'.gap ≡ record p.gap { versions = n } → Words (set ws versions_word n) p' t
  versions_stored gap =
      let wide = h.wide in
      record {
        wide = length-set ws versions_word n ∙ h.wide;
        head_is = word_after ws versions_word head_word n (omega arith) ∙ h.head_is;
        tail_is = word_after ws versions_word tail_word n (omega arith) ∙ (h.tail_is ∙ ap length (sym put));
        end_is = word_after ws versions_word end_word n (omega arith) ∙ (h.end_is ∙ sym end);
        attach_is = word_after ws versions_word attach_word n (omega arith) ∙ h.attach_is;
        first_is = word_after ws versions_word first_word n (omega arith) ∙ (h.first_is ∙ ap (λ (g : GapWords). g.first) (sym gap));
        last_is = word_after ws versions_word last_word n (omega arith) ∙ (h.last_is ∙ ap (λ (g : GapWords). g.last) (sym gap));
        versions_is = word_after ws versions_word versions_word n (omega arith) ∙ ap (λ (g : GapWords). g.versions) (sym gap);
      }
