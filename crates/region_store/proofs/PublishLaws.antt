-- A region that is written is published, and the loader then rests again.
use Rattle.std.proofs.Common.{◌≡◌, ℕ, ◌+◌, ◌<◌, ◌≤◌, ◌==◌, false, List, [], ◌∷◌, ◌++◌, length, take, set, replicate, Some, None}
use Rattle.std.proofs.Common.{refl, sym, ap, ◌∙◌, subst, arith, append_assoc, ne_eqb}
use Rattle.std.proofs.lemmas.Bool.{cond-false}
use Rattle.std.proofs.lemmas.List.{take_all}
use Rattle.region_store.specs.declared.view.Did.{Did}
use Rattle.region_store.specs.declared.view.Did.TheVariants as did
use Rattle.region_store.specs.declared.view.View.{View}
use Rattle.region_store.specs.Layout.{place_of, published_word, epoch_word, version_weight, packed, region_in}
use Rattle.region_store.specs.Images.{IsLike}
use Rattle.region_store.specs.Steps.{loader_did, with_published, with_next}
use Rattle.region_store.specs.May.{MayPublish, MayFollow}
use Rattle.region_store.specs.Store.{LoaderRests}
use Rattle.region_store.specs.Publishing.{Looked, stores_of, publishing, published}
use Rattle.region_store.specs.Finding.{written, written_out}
use Rattle.region_store.proofs.PlaceLaws.{region_back}

-- an image has its header
pub image_low : (first image : List ℕ) → IsLike first image → 1 ≤ length image
image_low first image like = omega (arith, like.encodes.header, like.encodes.whole)

-- the images begin as before where one is added
begins_more : (first : List ℕ) (xs ys : List (List ℕ)) → take 1 xs ≡ first ∷ [] → take 1 (xs ++ ys) ≡ first ∷ []
begins_more first [] ys e = absurd (cc e)
begins_more first (x ∷ xs) ys e = e

pub begins_still : (first : List ℕ) (image : List ℕ) (before after new : List (List ℕ)) → after ≡ before → new ≡ after ++ image ∷ [] → take 1 before ≡ first ∷ [] → take 1 new ≡ first ∷ []
begins_still first image before after new same is begins =
    ap (take 1) is ∙ begins_more first after (image ∷ []) (ap (take 1) same ∙ begins)

module _ (region version r : ℕ) (image : List ℕ) (v : View) (rests : LoaderRests version r v) (some : 1 ≤ length image) where
  abbrev all : ℕ
  all = length image

  writing_is : (written region image (length image) v).loader.writing ≡ Some region
  writing_is = cond-false (all == 0) None (Some region) (ne_eqb all 0 (λ e. omega (arith, e, some)))

  pub draft_is : (written region image (length image) v).loader.draft ≡ image
  draft_is = take_all all image (omega arith)

  pub may_publish : (u : View) → u ≡ written region image (length image) v → version + 1 < version_weight → MayPublish (packed (version + 1) region (length image)) region u
  may_publish u is more =
      let then : MayPublish (packed (version + 1) region all) region (written region image all v) = record {
        may = rests.is_loader;
        writing = writing_is;
        now = rests.epoch_is ∙ sym rests.version_is;
        more = omega (arith, rests.version_is, more);
        word = λ i. packed (sym rests.version_is i + 1) region (length (sym draft_is i));
      } in
      subst (MayPublish (packed (version + 1) region all) region) (sym is) then

  pub may_follow : (value : ℕ) (u w : View) → u ≡ written region image (length image) v
      → w ≡ record u { loader = loader_did (with_published u.shape.lanes (region_in value) u.loader) (did.Stored published_word value) }
      → MayFollow (version + 1) w
  may_follow value u w before is =
      let F : View → View = λ x. record x { loader = loader_did (with_published x.shape.lanes (region_in value) x.loader) (did.Stored published_word value) } in
      let then : MayFollow (version + 1) (F (written region image all v)) = record {
        may = rests.is_loader;
        behind = omega (arith, rests.epoch_is, rests.version_is);
        next = ap (λ n. n + 1) (sym rests.epoch_is);
      } in
      subst (MayFollow (version + 1)) (sym (is ∙ ap F before)) then

  -- the two stores
  pub is_written_out : (u w x : View) → region < 256 → length image < 16777216 → u ≡ written region image (length image) v
      → w ≡ record u { loader = loader_did (with_published u.shape.lanes (region_in (packed (version + 1) region (length image))) u.loader) (did.Stored published_word (packed (version + 1) region (length image))) }
      → x ≡ record w { loader = loader_did (with_next w.loader) (did.Stored epoch_word (version + 1)) } → x ≡ written_out region image v
  is_written_out u w x low short before publishes follows =
      let value : ℕ = packed (version + 1) region all in
      let F : View → View = λ y. record y { loader = loader_did (with_published y.shape.lanes (region_in value) y.loader) (did.Stored published_word value) } in
      let G : View → View = λ y. record y { loader = loader_did (with_next y.loader) (did.Stored epoch_word (version + 1)) } in
      let named : region_in value ≡ region = region_back (version + 1) region all low short in
      let stores : List Did = stores_of (place_of v.shape.room region 0) image all in
      let one : Did = did.Stored published_word value in
      let two : Did = did.Stored epoch_word (version + 1) in
      let joined : ((v.loader.steps ++ stores) ++ one ∷ []) ++ two ∷ [] ≡ v.loader.steps ++ (stores ++ (one ∷ two ∷ [])) =
      append_assoc (v.loader.steps ++ stores) (one ∷ []) (two ∷ []) ∙ append_assoc v.loader.steps stores (one ∷ two ∷ []) in
      let known : v.loader.steps ++ (stores ++ (one ∷ two ∷ [])) ≡ v.loader.steps ++ publishing region image v =
      λ i. v.loader.steps ++ (stores ++ (did.Stored published_word (packed (sym rests.version_is i + 1) region all) ∷ did.Stored epoch_word (sym rests.version_is i + 1) ∷ [])) in
      follows ∙ (ap G (publishes ∙ ap F before) ∙ (λ i. record v {
        loader = record v.loader {
          images = v.loader.images ++ draft_is i ∷ [];
          draft = [];
          writing = None;
          epoch = v.loader.epoch + 1;
          version = v.loader.version + 1;
          region = named i;
          retired = set (set v.loader.retired v.loader.region (Some v.loader.epoch)) (named i) None;
          cleared = set v.loader.cleared (named i) (replicate v.shape.lanes false);
          steps = (joined ∙ known) i;
        };
      }))

-- with the loads before
module _ (region version r : ℕ) (image : List ℕ) (loads : List Did) (v u w : View) (rests : LoaderRests version r v) (looked : Looked loads v u) (is : w ≡ written_out region image u) where
  abbrev from : View → View
  from = written_out region image

  whole : w ≡ from (record v { loader = record v.loader { cleared = u.loader.cleared; steps = v.loader.steps ++ loads } })
  whole = is ∙ ap from looked.same

  epoch_same : v.loader.epoch ≡ v.loader.version
  epoch_same = rests.epoch_is ∙ sym rests.version_is

  pub is_published : w ≡ published region image (loads ++ publishing region image v) v w
  is_published =
      let cleared : set u.loader.cleared region (replicate v.shape.lanes false) ≡ w.loader.cleared = sym (ap (λ (x : View). x.loader.cleared) whole) in
      whole ∙ (λ i. record v {
        loader = record v.loader {
          images = v.loader.images ++ image ∷ [];
          draft = sym rests.no_draft i;
          writing = sym rests.not_writing i;
          epoch = epoch_same i + 1;
          version = v.loader.version + 1;
          region = region;
          retired = set (set v.loader.retired v.loader.region (Some (epoch_same i))) region None;
          cleared = cleared i;
          steps = append_assoc v.loader.steps loads (publishing region image v) i;
        };
      })

  pub rests_again : region < v.shape.regions → LoaderRests (version + 1) region w
  rests_again low =
      let then : LoaderRests (version + 1) region (from (record v { loader = record v.loader { cleared = u.loader.cleared; steps = v.loader.steps ++ loads } })) = record {
        is_loader = rests.is_loader;
        no_lane = rests.no_lane;
        none_kept = rests.none_kept;
        version_is = ap (λ n. n + 1) rests.version_is;
        region_is = refl;
        epoch_is = ap (λ n. n + 1) rests.epoch_is;
        no_draft = refl;
        not_writing = refl;
        region_low = low;
      } in
      subst (LoaderRests (version + 1) region) (sym whole) then

  pub retired_again : set (set v.loader.retired r (Some version)) region None ≡ w.loader.retired
  retired_again = (λ i. set (set v.loader.retired (sym rests.region_is i) (Some (sym rests.epoch_is i))) region None) ∙ sym (ap (λ (x : View). x.loader.retired) whole)

-- and a loader that only looked rests as before
module _ (version r : ℕ) (loads : List Did) (v u : View) (looked : Looked loads v u) where
  pub rests_still : LoaderRests version r v → LoaderRests version r u
  rests_still rests =
      let then : LoaderRests version r (record v { loader = record v.loader { cleared = u.loader.cleared; steps = v.loader.steps ++ loads } }) = record {
        is_loader = rests.is_loader;
        no_lane = rests.no_lane;
        none_kept = rests.none_kept;
        version_is = rests.version_is;
        region_is = rests.region_is;
        epoch_is = rests.epoch_is;
        no_draft = rests.no_draft;
        not_writing = rests.not_writing;
        region_low = rests.region_low;
      } in
      subst (LoaderRests version r) (sym looked.same) then

  pub retired_still : v.loader.retired ≡ u.loader.retired
  retired_still = sym (ap (λ (x : View). x.loader.retired) looked.same)
