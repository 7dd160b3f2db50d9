-- Pieces that were appended one after another are appended as one.
use Rattle.std.proofs.Common.{◌≡◌, ℕ, List, [], ◌++◌, refl, append_assoc}
use Rattle.std.proofs.lemmas.List.{append-nil}

-- three words, a blank with what follows it, and a last word
pub transport_joined : (old o1 o2 o3 now p s d blank bytes name end : List ℕ) → o1 ≡ old ++ (p ++ (s ++ (d ++ []))) → o2 ≡ o1 ++ blank → o3 ≡ o2 ++ bytes
    → now ≡ o3 ++ ((name ++ []) ++ end) → now ≡ old ++ ((p ++ (s ++ (d ++ ((blank ++ bytes) ++ (name ++ []))))) ++ end)
transport_joined old o1 o2 o3 now p s d blank bytes name end a b c e =
    rw (e, c, b, a) (simp (append_assoc, append-nil) refl)

-- two words, three words more, and the last words
pub signal_joined : (old o1 o2 o3 o4 now s name raw value unit label end : List ℕ) → o1 ≡ old ++ (s ++ (name ++ [])) → o2 ≡ o1 ++ raw → o3 ≡ o2 ++ value
    → o4 ≡ o3 ++ unit → now ≡ o4 ++ (label ++ end) → now ≡ old ++ ((s ++ (name ++ (raw ++ (value ++ (unit ++ label))))) ++ end)
signal_joined old o1 o2 o3 o4 now s name raw value unit label end a b c d e =
    rw (e, d, c, b, a) (simp (append_assoc, append-nil) refl)
