-- The words at the start: the length, zeros, the image, and zeros.
use Rattle.std.proofs.Common.{◌≡◌, ℕ, zero, suc, ◌+◌, ◌<◌, List, [], ◌∷◌, ◌++◌, length, get_or, replicate, refl, sym, ap, ◌∙◌, subst, arith, length-append}
use Rattle.std.proofs.lemmas.List.{length-replicate, get_or-replicate, get_or_append_left, get_or-append-add}
use Rattle.region_store.specs.declared.view.Shape.{Shape}
use Rattle.region_store.specs.Layout.{first_region, word_count}
use Rattle.region_store.specs.Images.{IsImage, IsLike}
use Rattle.region_store.specs.Store.{AreFirstWords}

module _ (shape : Shape) (image : List ℕ) (rest : ℕ) (count : first_region + length image + rest ≡ word_count shape.regions shape.room) where
  head : List ℕ
  head = length image ∷ replicate 287 0

  prefix : List ℕ
  prefix = head ++ image

  whole : List ℕ
  whole = prefix ++ replicate rest 0

  head_long : length head ≡ first_region
  unfolding head
  head_long = omega (arith, length-replicate {A = ℕ} 287 0)

  prefix_long : length prefix ≡ first_region + length image
  unfolding prefix
  prefix_long = length-append head image ∙ ap (λ n. n + length image) head_long

  zero_at : (i : ℕ) → 0 < i → i < first_region → get_or head i 0 ≡ 0
  unfolding head
  zero_at zero some few = absurd (omega (arith, some))
  zero_at (suc i) some few = get_or-replicate 287 i 0 0 (omega (arith, few))

  whole_are : AreFirstWords shape image whole
  unfolding whole prefix head
  whole_are = record {
    wide = length-append prefix (replicate rest 0) ∙ (ap (λ n. length prefix + n) (length-replicate {A = ℕ} rest 0) ∙ (ap (λ n. n + rest) prefix_long ∙ count));
    size = refl;
    zeros = λ i some few. get_or_append_left prefix (replicate rest 0) 0 i (omega (arith, few, prefix_long)) ∙ (get_or_append_left head image 0 i (omega (arith, few, head_long)) ∙ zero_at i some few);
    image_is = λ i low. get_or_append_left prefix (replicate rest 0) 0 (first_region + i) (omega (arith, low, prefix_long))
        ∙ (ap (λ n. get_or prefix (n + i) 0) (sym head_long) ∙ get_or-append-add head image i 0);
  }

pub first_are : (shape : Shape) (image : List ℕ) (rest : ℕ) (ws : List ℕ) → ws ≡ (((length image ∷ []) ++ replicate 287 0) ++ image) ++ replicate rest 0
    → first_region + length image + rest ≡ word_count shape.regions shape.room → AreFirstWords shape image ws
unfolding whole prefix head
first_are shape image rest ws is count = subst (AreFirstWords shape image) (sym is) (whole_are shape image rest count)

-- an image is like itself
pub like_itself : (image : List ℕ) → IsImage image → IsLike image image
like_itself image is = record { before = is.bench; bench = is.bench; first_encodes = is.encodes; encodes = is.encodes; valid = is.valid; names = refl }
