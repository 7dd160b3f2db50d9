-- The pieces of a reply are its line.
use Rattle.std.proofs.Common.{◌≡◌, ℕ, List, [], ◌∷◌, ◌++◌, refl, sym, ap, ◌∙◌, append_assoc}
use Rattle.std.specs.Prelude.{codes, flat_map}
use Rattle.std.proofs.lemmas.Grind.{flat_map-append}
use Rattle.std.proofs.lemmas.List.{append-nil}
use Rattle.text_words.specs.SpacedWords.{behind_blank, text_of_words}
use Rattle.region_store.specs.declared.loader.Holder.{Holder}
use Rattle.bench_loader.specs.ReplyText.{holder_words}

abbrev pub holder_text : Holder → List ℕ
holder_text h = flat_map behind_blank (holder_words h)

holders-text : (hs : List Holder) → flat_map behind_blank (flat_map holder_words hs) ≡ flat_map holder_text hs
holders-text [] = refl
holders-text (h ∷ hs) =
    flat_map-append behind_blank (holder_words h) (flat_map holder_words hs) ∙ ap (λ (xs : List ℕ). holder_text h ++ xs) (holders-text hs)

pub busy_joined : (out a b : List ℕ) (hs : List Holder) → a ≡ out ++ codes "busy" → b ≡ a ++ flat_map holder_text hs
    → b ≡ out ++ text_of_words (codes "busy" ∷ flat_map holder_words hs)
busy_joined out a b hs e f =
    f ∙ ap (λ (xs : List ℕ). xs ++ flat_map holder_text hs) e ∙ append_assoc out (codes "busy") (flat_map holder_text hs)
    ∙ ap (λ (xs : List ℕ). out ++ (codes "busy" ++ xs)) (sym (holders-text hs))

pub refused_joined : (out a b d name fault : List ℕ) → a ≡ out ++ text_of_words (codes "refused" ∷ name ∷ []) → b ≡ a ++ 32 ∷ [] → d ≡ b ++ fault
    → d ≡ out ++ text_of_words (codes "refused" ∷ name ∷ fault ∷ [])
refused_joined out a b d name fault e f g = rw (g, f, e) (simp (append_assoc, append-nil))
