-- What a word that is read under a pin changes of what is known.
use Rattle.std.proofs.Common.{◌≡◌, ◌≢◌, ℕ, ◌==◌, Some, option_map}
use Rattle.std.proofs.Common.{refl, sym, ap, ◌∙◌, subst, ⊎_elim, eq-eqb, ne_eqb}
use Rattle.std.proofs.lemmas.Bool.{cases_eq, cond-true, cond-false}
use Rattle.image_words.specs.Knowledge.{Learns}
use Rattle.region_store.specs.declared.view.Did.{Did}
use Rattle.region_store.specs.declared.view.Use.{Use}
use Rattle.region_store.specs.declared.view.View.{View}
use Rattle.region_store.specs.Uses.{known_in, knowledge_of, use_held}
use Rattle.region_store.specs.Steps.{lane_did, with_read, with_word, IsReadOf}

learns_read : (buses at n : ℕ) (u : Use) → IsReadOf at n buses u → Learns (knowledge_of buses u) (knowledge_of buses (with_read at n u)) at n
unfolding known_in
learns_read buses at n u is = record {
  size = refl;
  buses = refl;
  given = cond-true (at == at) (Some n) (known_in u.words at) (eq-eqb at at refl);
  kept = λ i w e. ⊎_elim
      (λ (s : at ≡ i). cond-true (at == i) (Some n) (known_in u.words i) (eq-eqb at i s) ∙ ap (λ k. Some k) (sym (is.same w (ap (known_in u.words) s ∙ e))))
      (λ (o : at ≢ i). cond-false (at == i) (Some n) (known_in u.words i) (ne_eqb at i o) ∙ e)
      (cases_eq at i);
  only = λ i other. cond-false (at == i) (Some n) (known_in u.words i) (ne_eqb at i (λ e. other (sym e)));
}

module _ (ov nv : View) (b n : ℕ) (d : Did) (is : nv ≡ record ov { lane = lane_did (with_word b n ov.lane) d }) (held : ov.lane.held ≡ Some (use_held ov.lane.held)) where
  pub pin_after : use_held nv.lane.held ≡ with_read b n (use_held ov.lane.held)
  pin_after = ap (λ (v : View). use_held v.lane.held) is ∙ ap (λ h. use_held (option_map (with_read b n) h)) held

  pub word_learns : (at : ℕ) → b ≡ at → ((u : Use) → ov.lane.held ≡ Some u → IsReadOf b n ov.shape.buses u)
      → Learns (knowledge_of ov.shape.buses (use_held ov.lane.held)) (knowledge_of nv.shape.buses (use_held nv.lane.held)) at n
  word_learns at back read =
      let got = learns_read ov.shape.buses b n (use_held ov.lane.held) (read (use_held ov.lane.held) held) in
      let buses : ov.shape.buses ≡ nv.shape.buses = ap (λ (v : View). v.shape.buses) (sym is) in
      subst (λ (k : ℕ × (ℕ × Use)). Learns (knowledge_of ov.shape.buses (use_held ov.lane.held)) (knowledge_of k.1.0 k.1.1) k.0 n) (λ i. (back i, (buses i, sym pin_after i))) got
