-- How the uses of a lane fit the images, when an image is added, a version is held and a word is read.
use Rattle.std.proofs.Common.{◌≡◌, ◌≢◌, ℕ, ◌+◌, ◌<◌, ◌≤◌, ◌==◌, cond, List, [], ◌∷◌, ◌++◌, length, get_or, slice_get}
use Rattle.std.proofs.Common.{Some, All, AllPairs, refl, sym, ap, ◌∙◌, subst, arith, ⊎_elim, length-append, eq-eqb, ne_eqb}
use Rattle.std.proofs.lemmas.Bool.{cases_eq, cond-true, cond-false}
use Rattle.std.proofs.lemmas.List.{get_or_append_left, get_or_push, length-map}
use Rattle.std.proofs.lemmas.Option.{slice_get-get_or}
use Rattle.std.proofs.lemmas.List.Elements.{All-push, All-weaker, All-cons, All-head, All-tail}
use Rattle.image_words.specs.Knowledge.{Fits, SomeFits}
use Rattle.region_store.specs.declared.view.Read.{Read}
use Rattle.region_store.specs.declared.view.Use.{Use}
use Rattle.region_store.specs.Images.{IsLike, name_of, names_of}
use Rattle.region_store.specs.Steps.{with_read}
use Rattle.region_store.specs.Uses.{image_at, IsWordOf, UseFits, UsesFit, known_in, knowledge_of}

-- what fits fits also where images are added
pub use_fits_longer : (images more : List (List ℕ)) (u : Use) → UseFits images u → UseFits (images ++ more) u
use_fits_longer images more u fit =
    let same : image_at (images ++ more) u.version ≡ image_at images u.version = get_or_append_left images more [] u.version fit.published in
    record {
      published = omega (arith, fit.published, length-append images more);
      size = fit.size ∙ ap length (sym same);
      words = subst (λ i. All (IsWordOf i) u.words) (sym same) fit.words;
    }

pub uses_fit_longer : (images more : List (List ℕ)) (us : List Use) → UsesFit images us → UsesFit (images ++ more) us
uses_fit_longer images more us fit = record {
  fit = All-weaker (UseFits images) (UseFits (images ++ more)) (use_fits_longer images more) us fit.fit;
  rise = fit.rise;
}

-- a use of a version that is not below any before
pub pairs_push : {X : Type 0} (R : X → X → Type 0) (xs : List X) (y : X) → AllPairs R xs → All (λ x. R x y) xs → AllPairs R (xs ++ y ∷ [])
pairs_push {X} R xs y pairs last i j d below within =
    let count : length (xs ++ y ∷ []) ≡ length xs + 1 = length-append xs (y ∷ []) in
    ⊎_elim
    (λ (e : j ≡ length xs).
    let at_j : get_or (xs ++ y ∷ []) j d ≡ y = get_or_push xs y d j (sym e) in
    let at_i : get_or (xs ++ y ∷ []) i d ≡ get_or xs i d = get_or_append_left xs (y ∷ []) d i (omega (arith, below, e)) in
    subst (λ (p : X × X). R p.0 p.1) (λ k. (sym at_i k, sym at_j k)) (last i d (omega (arith, below, e))))
    (λ (n : j ≢ length xs).
    let inside : j < length xs = omega (arith, n, within, count) in
    let at_j : get_or (xs ++ y ∷ []) j d ≡ get_or xs j d = get_or_append_left xs (y ∷ []) d j inside in
    let at_i : get_or (xs ++ y ∷ []) i d ≡ get_or xs i d = get_or_append_left xs (y ∷ []) d i (omega (arith, below, inside)) in
    subst (λ (p : X × X). R p.0 p.1) (λ k. (sym at_i k, sym at_j k)) (pairs i j d below inside))
    (cases_eq j (length xs))

pub uses_fit_push : (images : List (List ℕ)) (us : List Use) (u : Use) → UsesFit images us → UseFits images u → All (λ w. w.version ≤ u.version) us → UsesFit images (us ++ u ∷ [])
uses_fit_push images us u fit this last = record {
  fit = All-push (UseFits images) us u fit.fit this;
  rise = pairs_push (λ a b. a.version ≤ b.version) us u fit.rise last;
}

-- a word that is known is one of the image
pub known_is_of : (image : List ℕ) (rs : List Read) → All (IsWordOf image) rs → (at w : ℕ) → known_in rs at ≡ Some w → slice_get image at ≡ Some w
unfolding known_in
known_is_of image [] all at w e = absurd (cc e)
known_is_of image (r ∷ rs) all at w e =
    ⊎_elim
    (λ (same : r.at ≡ at).
    let found : cond (r.at == at) (Some r.word) (known_in rs at) ≡ Some r.word = cond-true (r.at == at) (Some r.word) (known_in rs at) (eq-eqb r.at at same) in
    ap (slice_get image) (sym same) ∙ (All-head (IsWordOf image) r rs all ∙ (sym found ∙ e)))
    (λ (other : r.at ≢ at).
    let found : cond (r.at == at) (Some r.word) (known_in rs at) ≡ known_in rs at = cond-false (r.at == at) (Some r.word) (known_in rs at) (ne_eqb r.at at other) in
    known_is_of image rs (All-tail (IsWordOf image) r rs all) at w (sym found ∙ e))
    (cases_eq r.at at)

-- the number of buses of an image that the store takes
pub buses_of : (first image : List ℕ) (like : IsLike first image) → length like.bench.buses ≡ get_or first 1 0
buses_of first image like =
    let alike : length (names_of like.bench) ≡ length (names_of like.before) = ap length like.names in
    let mine : length (names_of like.bench) ≡ length like.bench.buses = length-map like.bench.buses name_of in
    let its : length (names_of like.before) ≡ length like.before.buses = length-map like.before.buses name_of in
    sym mine ∙ (alike ∙ (its ∙ like.first_encodes.buses.size))

-- the image of a use's version fits what is known under that pin
pub image_fits : (first : List ℕ) (images : List (List ℕ)) (u : Use) (buses : ℕ) (like : IsLike first (image_at images u.version)) → buses ≡ get_or first 1 0 → UseFits images u
    → Fits (knowledge_of buses u) (image_at images u.version) like.bench
image_fits first images u buses like are fit = record {
  size = sym fit.size;
  buses = buses_of first (image_at images u.version) like ∙ sym are;
  known = λ i w e. known_is_of (image_at images u.version) u.words fit.words i w e;
  encodes = like.encodes;
  valid = like.valid;
}

-- so some list does
pub some_fits : (first : List ℕ) (images : List (List ℕ)) (u : Use) (buses : ℕ) → buses ≡ get_or first 1 0 → IsLike first (image_at images u.version) → UseFits images u → SomeFits (knowledge_of buses u)
some_fits first images u buses are like fit =
    record { image = image_at images u.version; bench = like.bench; fits = image_fits first images u buses like are fit }

-- without the last use, and with the last one changed
pub uses_fit_init : (images : List (List ℕ)) (us : List Use) (u : Use) → UsesFit images (us ++ u ∷ [])
    → UsesFit images us × All (λ w. w.version ≤ u.version) us × UseFits images u
uses_fit_init images us u fit =
    let count : length (us ++ u ∷ []) ≡ length us + 1 = length-append us (u ∷ []) in
    let old : (k : ℕ) (d : Use) → k < length us → get_or (us ++ u ∷ []) k d ≡ get_or us k d = λ k d below. get_or_append_left us (u ∷ []) d k below in
    let last : (d : Use) → get_or (us ++ u ∷ []) (length us) d ≡ u = λ d. get_or_push us u d (length us) refl in (
      record {
        fit = λ k d below. subst (UseFits images) (old k d below) (fit.fit k d (omega (arith, below, count)));
        rise = λ i j d below within.
            subst (λ (p : Use × Use). p.0.version ≤ p.1.version) (λ k. (old i d (omega (arith, below, within)) k, old j d within k))
            (fit.rise i j d below (omega (arith, within, count)));
      },
      λ k d below. subst (λ (p : Use × Use). p.0.version ≤ p.1.version) (λ i. (old k d below i, last d i)) (fit.rise k (length us) d below (omega (arith, count))),
      subst (UseFits images) (last u) (fit.fit (length us) u (omega (arith, count))),
    )

pub uses_fit_last : (images : List (List ℕ)) (us : List Use) (u w : Use) → UsesFit images (us ++ u ∷ []) → UseFits images w → w.version ≡ u.version → UsesFit images (us ++ w ∷ [])
uses_fit_last images us u w fit this same =
    let before = uses_fit_init images us u fit in
    uses_fit_push images us w before.0 this (λ k d below. omega (arith, before.1 k d below, same))

-- a word of an image is read under its pin
pub use_fits_read : (images : List (List ℕ)) (u : Use) (at n : ℕ) → UseFits images u → at < u.size → n ≡ get_or (image_at images u.version) at 0 → UseFits images (with_read at n u)
use_fits_read images u at n fit within is =
    let image : List ℕ = image_at images u.version in
    let r : Read = record { at = at; word = n } in
    record {
      published = fit.published;
      size = fit.size;
      words = All-cons (IsWordOf image) r u.words (slice_get-get_or image at 0 (omega (arith, within, fit.size)) ∙ ap (λ k. Some k) (sym is)) fit.words;
    }
