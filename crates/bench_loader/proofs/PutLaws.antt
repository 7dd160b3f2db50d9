-- What the store answers to the image of the next bench, and the loader after it.
use Rattle.std.proofs.Common.{◌≡◌, ℕ, ◌+◌, List, [], ◌∷◌, ◌++◌, length, map, get_or, refl, sym, ap, subst, ◌∙◌}
use Rattle.std.specs.List.{enumerate_from}
use Rattle.std.proofs.lemmas.List.{length-append}
use Rattle.std.proofs.Math.Seq.{get_or-append_seam}
use Rattle.bench_model.specs.declared.database.Kind.{Kind}
use Rattle.bench_model.specs.declared.database.Bus.{Bus}
use Rattle.bench_model.specs.declared.database.Bench.{Bench}
use Rattle.bench_model.specs.declared.replace.Change.{Change}
use Rattle.bench_model.specs.ValidBench.{IsValidBench}
use Rattle.bench_model.specs.Replaced.{bus_after, bench_after}
use Rattle.image_words.specs.Image.{Encodes}
use Rattle.region_store.specs.declared.store.Store.{Store}
use Rattle.region_store.specs.declared.loader.LoaderSeat.{LoaderSeat}
use Rattle.region_store.specs.declared.loader.Holder.{Holder}
use Rattle.region_store.specs.declared.view.View.{View}
use Rattle.region_store.specs.Images.{IsLike, name_of, names_of}
use Rattle.region_store.specs.Ends.{shape_of, first_of}
use Rattle.region_store.specs.LoaderEnd.{IsLoaderOf, view_of_loader}
use Rattle.region_store.specs.Publishing.{IsPublished, IsBusy}
use Rattle.bench_loader.specs.declared.loader.Loader.{Loader}
use Rattle.bench_loader.specs.Commands.{images_in, version_in}
use Rattle.bench_loader.specs.LoaderView.{state_of, IsFirst, IsLoaderOn}

-- what the law says of a list of words
abbrev pub OneEncoded : Type 0
OneEncoded = (image : List ℕ) (a b : Bench) → Encodes image a → Encodes image b → a ≡ b

-- a bench with other databases has the same names and kinds
names-map : (changes : List Change) (n : ℕ) (buses : List Bus) → map name_of (map (bus_after changes) (enumerate_from n buses)) ≡ map name_of buses
names-map changes n [] = refl
names-map changes n (b ∷ bs) = ap (λ (xs : List (Kind × List ℕ)). name_of b ∷ xs) (names-map changes (n + 1) bs)

pub names_after : (bench next : Bench) (changes : List Change) → next ≡ bench_after bench changes → names_of next ≡ names_of bench
names_after bench next changes is = ap names_of is ∙ names-map changes 0 bench.buses

-- the image of the next bench is one that the store takes
pub like_next : (one : OneEncoded) (s : Store) (l : Loader) (next : Bench) (image : List ℕ) → IsLoaderOn s l → IsValidBench next → names_of next ≡ names_of l.bench → Encodes image next
    → IsLike (first_of s) image
like_next one s l next image on valid names encodes = record {
  before = on.like.before;
  bench = next;
  first_encodes = on.like.first_encodes;
  encodes = encodes;
  valid = valid;
  names = names
      ∙ ap names_of (sym (one (get_or (images_in (state_of l)) (version_in (state_of l)) []) on.like.bench l.bench on.like.encodes on.encodes))
      ∙ on.like.names;
}

-- the loader after a publication
pub loader_next : (s : Store) (l m : Loader) (next : Bench) (image : List ℕ) (version : ℕ) → IsLoaderOn s l → m.bench ≡ next → m.room ≡ l.room → IsLoaderOf s m.seat
    → IsPublished image version (view_of_loader l.seat) (view_of_loader m.seat) → IsValidBench next → Encodes image next → IsLike (first_of s) image → IsLoaderOn s m
loader_next s l m next image version on bench room own put valid encodes like =
    let images : images_in (state_of m) ≡ images_in (state_of l) ++ image ∷ [] = ap (λ (v : View). v.loader.images) put.view in
    let is_version : version_in (state_of m) ≡ version_in (state_of l) + 1 = ap (λ (v : View). v.loader.version) put.view in
    let at : version_in (state_of m) ≡ length (images_in (state_of l)) = is_version ∙ sym on.count in
    let last : get_or (images_in (state_of m)) (version_in (state_of m)) [] ≡ image =
    ap (λ (xs : List (List ℕ)). get_or xs (version_in (state_of m)) []) images ∙ ap (λ k. get_or (images_in (state_of l) ++ image ∷ []) k []) at ∙ get_or-append_seam (images_in (state_of l)) image [] [] in
    record {
      own = own;
      room_is = room ∙ on.room_is;
      count = ap length images ∙ length-append (images_in (state_of l)) (image ∷ []) ∙ ap (λ n. n + 1) (sym at);
      valid = subst IsValidBench (sym bench) valid;
      encodes = (let P : List ℕ → Type 0 = λ x. Encodes x m.bench in subst P (sym last) (let Q : Bench → Type 0 = λ b. Encodes image b in subst Q (sym bench) encodes));
      like = (let P : List ℕ → Type 0 = λ x. IsLike (first_of s) x in subst P (sym last) like);
    }

-- and where it has the bench, the images and the version that it had
loader_same : (s : Store) (l m : Loader) → IsLoaderOn s l → m.bench ≡ l.bench → m.room ≡ l.room → IsLoaderOf s m.seat → images_in (state_of m) ≡ images_in (state_of l)
    → version_in (state_of m) ≡ version_in (state_of l) → IsLoaderOn s m
loader_same s l m on bench room own images version =
    let last : get_or (images_in (state_of m)) (version_in (state_of m)) [] ≡ get_or (images_in (state_of l)) (version_in (state_of l)) [] =
    ap (λ (xs : List (List ℕ)). get_or xs (version_in (state_of m)) []) images ∙ ap (λ k. get_or (images_in (state_of l)) k []) version in
    let P : List ℕ → Type 0 = λ x. Encodes x m.bench in
    let Q : Bench → Type 0 = λ b. Encodes (get_or (images_in (state_of l)) (version_in (state_of l)) []) b in
    let R : List ℕ → Type 0 = λ x. IsLike (first_of s) x in
    record {
      own = own;
      room_is = room ∙ on.room_is;
      count = ap length images ∙ on.count ∙ ap (λ n. n + 1) (sym version);
      valid = subst IsValidBench (sym bench) on.valid;
      encodes = subst P (sym last) (subst Q (sym bench) on.encodes);
      like = subst R (sym last) on.like;
    }

pub loader_busy : (s : Store) (l m : Loader) (hs : List Holder) → IsLoaderOn s l → m.bench ≡ l.bench → m.room ≡ l.room → IsLoaderOf s m.seat → IsBusy hs (view_of_loader l.seat) (view_of_loader m.seat) → IsLoaderOn s m
loader_busy s l m hs on bench room own busy =
    loader_same s l m on bench room own (ap (λ (v : View). v.loader.images) busy.looked.same) (ap (λ (v : View). v.loader.version) busy.looked.same)

pub loader_kept : (s : Store) (l m : Loader) → IsLoaderOn s l → m.bench ≡ l.bench → m.room ≡ l.room → IsLoaderOf s m.seat → m.seat ≡ l.seat → IsLoaderOn s m
loader_kept s l m on bench room own seat =
    loader_same s l m on bench room own (ap (λ (x : LoaderSeat). (view_of_loader x).loader.images) seat) (ap (λ (x : LoaderSeat). (view_of_loader x).loader.version) seat)

-- the loader of a store that was just made
pub loader_first : (s : Store) (l : Loader) (bench : Bench) (seat : LoaderSeat) (room : ℕ) (image : List ℕ) → (l.bench ≡ bench) × (l.room ≡ room) × (l.seat ≡ seat) → IsFirst s image seat
    → room ≡ (shape_of s).room → IsValidBench bench → Encodes image bench → IsLoaderOn s l
loader_first s l bench seat room image kept first rooms valid encodes =
    let P : LoaderSeat → Type 0 = λ x. IsLoaderOf s x in
    let images : images_in (state_of l) ≡ image ∷ [] = ap (λ (x : LoaderSeat). (view_of_loader x).loader.images) kept.2 ∙ first.images in
    let version : version_in (state_of l) ≡ 0 = ap (λ (x : LoaderSeat). (view_of_loader x).loader.version) kept.2 ∙ first.version in
    let last : get_or (images_in (state_of l)) (version_in (state_of l)) [] ≡ image =
    ap (λ (xs : List (List ℕ)). get_or xs (version_in (state_of l)) []) images ∙ ap (λ k. get_or (image ∷ []) k []) version in
    let Q : List ℕ → Type 0 = λ x. Encodes x l.bench in
    let R : List ℕ → Type 0 = λ x. IsLike (first_of s) x in
    let S : List ℕ → Type 0 = λ x. Encodes x bench in
    let T : Bench → Type 0 = λ b. Encodes image b in
    let like : IsLike (first_of s) image = record {
      before = bench;
      bench = bench;
      first_encodes = subst S (sym first.first) encodes;
      encodes = encodes;
      valid = valid;
      names = refl;
    } in
    record {
      own = subst P (sym kept.2) first.own;
      room_is = kept.1 ∙ rooms;
      count = ap length images ∙ ap (λ n. n + 1) (sym version);
      valid = subst IsValidBench (sym kept.0) valid;
      encodes = subst Q (sym last) (subst T (sym kept.0) encodes);
      like = subst R (sym last) like;
    }
