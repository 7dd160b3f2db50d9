-- A prefix of a text of items is whole items and a prefix of the next.
use Rattle.std.proofs.Common.{◌≡◌, ℕ, List, [], ◌∷◌, ◌++◌, refl, sym, ap, ◌∙◌, append_assoc}
use Rattle.bench_model.specs.declared.reading.Item.{Item}
use Rattle.subscriber_text.specs.Wants.{WantList}
use Rattle.subscriber_text.specs.ItemText.{item_text, items_text}
use Rattle.subscriber_text.specs.Parts.{IsCutText}

-- two ways to part one list: one of the first parts is a prefix of the other
pub data Parted (a b sent rest : List ℕ) : Type 0 where
  within : (more : List ℕ) → a ≡ sent ++ more → Parted a b sent rest
  beyond : (more : List ℕ) → sent ≡ a ++ more → b ≡ more ++ rest → Parted a b sent rest

pub parted : (a b sent rest : List ℕ) → a ++ b ≡ sent ++ rest → Parted a b sent rest
parted [] b sent rest e = beyond sent refl e
parted (x ∷ a) b [] rest e = within (x ∷ a) refl
parted (x ∷ a) b (y ∷ sent) rest e =
    let first : x ≡ y = cc e in
    let others : a ++ b ≡ sent ++ rest = cc e in
    elim (parted a b sent rest others) [
      | within more f ↦ within more (rw (first, f) refl)
      | beyond more f g ↦ beyond more (rw (first, f) refl) g
    ]

pub cut_text : (w : WantList) (items : List Item) (sent rest : List ℕ) → items_text w items ≡ sent ++ rest → IsCutText w items sent
cut_text w [] [] rest e = record { whole = []; others = []; last = []; split = refl; joined = refl; cut = refl }
cut_text w [] (x ∷ sent) rest e = absurd (cc e)
cut_text w (i ∷ items) sent rest e = elim (parted (item_text w i) (items_text w items) sent rest e) [
  | within more f ↦ record { whole = []; others = i ∷ items; last = sent; split = refl; joined = refl; cut = (more, f) }
  | beyond more f g ↦
      let later : IsCutText w items more = cut_text w items more rest g in
      record {
        whole = i ∷ later.whole;
        others = later.others;
        last = later.last;
        split = ap (λ xs. i ∷ xs) later.split;
        joined = f ∙ ap (λ xs. item_text w i ++ xs) later.joined ∙ sym (append_assoc (item_text w i) (items_text w later.whole) later.last);
        cut = later.cut;
      }
]
