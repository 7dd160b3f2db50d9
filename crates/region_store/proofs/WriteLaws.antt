-- What the loader has written of an image, and what it publishes.
use Rattle.std.proofs.Common.{◌≡◌, ◌≢◌, ℕ, suc, ◌+◌, ◌<◌, ◌≤◌, ◌==◌, true, cond, List, [], ◌∷◌, ◌++◌, length, get_or, take, Some, None}
use Rattle.std.proofs.Common.{refl, sym, ap, ◌∙◌, subst, arith, inl, inr, ⊎_elim, append_assoc, eq-eqb, ne_eqb}
use Rattle.std.proofs.lemmas.Bool.{cases_eq, cond-true, cond-false}
use Rattle.std.proofs.lemmas.Option.{none-some}
use Rattle.std.proofs.lemmas.List.{append-nil, take_more, length-take-le}
use Rattle.region_store.specs.declared.view.Did.{Did}
use Rattle.region_store.specs.declared.view.Did.TheVariants as did
use Rattle.region_store.specs.declared.view.View.{View}
use Rattle.region_store.specs.Layout.{place_of}
use Rattle.region_store.specs.Steps.{loader_did, with_written}
use Rattle.region_store.specs.May.{MayWrite}
use Rattle.region_store.specs.Publishing.{stores_of}
use Rattle.region_store.specs.Finding.{IsFound, written}
use Rattle.region_store.proofs.PlaceLaws.{place_more}

stores_suc : (start : ℕ) (image : List ℕ) (n : ℕ) → stores_of start image (n + 1) ≡ stores_of start image n ++ did.Stored (start + n) (get_or image n 0) ∷ []
unfolding stores_of
stores_suc start image n = let e : n + 1 ≡ suc n = omega arith in ap (stores_of start image) e

stores_none : (start : ℕ) (image : List ℕ) → stores_of start image 0 ≡ []
unfolding stores_of
stores_none start image = refl

module _ (region : ℕ) (image : List ℕ) (v : View) where
  pub written_none : v.loader.writing ≡ None → v.loader.draft ≡ [] → v ≡ written region image 0 v
  written_none none empty = λ i. record v {
    loader = record v.loader {
      writing = none i;
      draft = empty i;
      steps = (sym (append-nil v.loader.steps) ∙ ap (λ l. v.loader.steps ++ l) (sym (stores_none (place_of v.shape.room region 0) image))) i;
    };
  }

  -- one word more
  pub written_more : (k word value : ℕ) (u w : View) → k < length image → value ≡ get_or image k 0 → word ≡ place_of v.shape.room region 0 + k → u ≡ written region image k v
      → w ≡ record u { loader = loader_did (with_written region value u.loader) (did.Stored word value) } → w ≡ written region image (k + 1) v
  written_more k word value u w low is place before after =
      let start : ℕ = place_of v.shape.room region 0 in
      let F : View → View = λ x. record x { loader = loader_did (with_written region value x.loader) (did.Stored word value) } in
      let writing : Some region ≡ cond ((k + 1) == 0) None (Some region) = sym (cond-false ((k + 1) == 0) None (Some region) (ne_eqb (k + 1) 0 (λ e. omega (arith, e)))) in
      let draft : take k image ++ value ∷ [] ≡ take (k + 1) image = ap (λ x. take k image ++ x ∷ []) is ∙ sym (take_more image k 0 low) in
      let same : did.Stored word value ≡ did.Stored (start + k) (get_or image k 0) = λ i. did.Stored (place i) (is i) in
      let steps : (v.loader.steps ++ stores_of start image k) ++ did.Stored word value ∷ [] ≡ v.loader.steps ++ stores_of start image (k + 1) =
      append_assoc v.loader.steps (stores_of start image k) (did.Stored word value ∷ [])
      ∙ ap (λ l. v.loader.steps ++ l) (ap (λ (d : Did). stores_of start image k ++ d ∷ []) same ∙ sym (stores_suc start image k)) in
      after ∙ (ap F before ∙ (λ i. record v { loader = record v.loader { writing = writing i; draft = draft i; steps = steps i } }))

  -- the next word may be written
  pub may_write : (k word : ℕ) (u : View) → v.is_loader ≡ true → IsFound v region → k < length image → length image ≤ v.shape.room → word ≡ place_of v.shape.room region 0 + k
      → u ≡ written region image k v → MayWrite word region u
  may_write k word u may found low room place before =
      let now : MayWrite word region (written region image k v) = record {
        may = may;
        there = found.there;
        spare = found.spare;
        free = found.free;
        alone = ⊎_elim
            (λ (e : k ≡ 0). inl (cond-true (k == 0) None (Some region) (eq-eqb k 0 e)))
            (λ (o : k ≢ 0). inr (cond-false (k == 0) None (Some region) (ne_eqb k 0 o)))
            (cases_eq k 0);
        fresh = λ e. ⊎_elim
            (λ (z : k ≡ 0). length-take-le k image (omega (arith, low)) ∙ z)
            (λ (o : k ≢ 0). absurd (none-some region (sym e ∙ cond-false (k == 0) None (Some region) (ne_eqb k 0 o))))
            (cases_eq k 0);
        room = omega (arith, length-take-le k image (omega (arith, low)), low, room);
        place = place ∙ (place_more v.shape.room region k ∙ ap (place_of v.shape.room region) (sym (length-take-le k image (omega (arith, low)))));
      } in
      subst (MayWrite word region) (sym before) now
