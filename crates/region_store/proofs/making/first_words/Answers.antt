use Rattle.std.proofs.Common.{ℕ, ◌+◌, ◌-◌, ◌*◌, ◌≤◌, List, [], ◌∷◌, ◌++◌, length, replicate, ap, ◌∙◌, arith}
use Rattle.std.proofs.lemmas.Nat.{mul-le}
use Rattle.region_store.specs.declared.view.Shape.{Shape}
use Rattle.region_store.specs.Layout.{word_count}
use Rattle.region_store.proofs.FirstLaws.{first_are}
use Rattle.region_store.proofs.making.first_words.Goals as goal

pub returns : goal.returns
unfolding word_count
returns c =
    let shape : Shape = c.args.shape.now in
    let image : List ℕ = c.args.first.now in
    let room : 1 * shape.room ≤ shape.regions * shape.room = mul-le 1 shape.room shape.regions shape.room (omega (arith, c.requires.within.some_regions)) (omega arith) in
    let rest : ℕ = 288 + shape.regions * shape.room - 288 - length image in
    let whole = c.in_ok-push_zeros-2.ensures
    ∙ ap (λ (l : List ℕ). l ++ replicate rest 0)
    (c.in_ok-extend_from_slice.ensures.items
    ∙ ap (λ (l : List ℕ). l ++ image)
    (c.in_ok-push_zeros.ensures ∙ ap (λ (l : List ℕ). l ++ replicate 287 0) (c.in_ok-push.ensures.items ∙ ap (λ (l : List ℕ). l ++ length image ∷ []) c.in_ok-words.ensures.items))) in
    first_are shape image rest _ whole (omega (arith, room, c.requires.room))
