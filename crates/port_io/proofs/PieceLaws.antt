-- What was written of a piece, part by part, is the first bytes of the piece.
use Rattle.std.proofs.Common.{◌≡◌, ℕ, ◌<◌, List, ◌++◌, length, take, Option, refl, sym, ap, ◌∙◌, arith, append_assoc, length-append}
use Rattle.std.proofs.lemmas.List.{take_at, take_rest, take-append-drop}
use Rattle.std.specs.List.{between}
use Rattle.std.specs.Io.KnownBytes.{append_known}
use Rattle.port_io.proofs.KnownLaws.{append_known-append}

-- the first n bytes of the rest join what is done
pub done_more : (piece done rest : List ℕ) (n : ℕ) (before was now : Option (List ℕ)) → piece ≡ done ++ rest → was ≡ append_known before done → now ≡ append_known was (take n rest) → (more : List ℕ) × (piece ≡ more ++ between n (length rest) rest) × (now ≡ append_known before more)
done_more piece done rest n before was now parted written wrote =
    (done ++ take n rest, joins, wrote ∙ ap (λ (o : Option (List ℕ)). append_known o (take n rest)) written ∙ append_known-append before done (take n rest))
  where
    joins : piece ≡ (done ++ take n rest) ++ between n (length rest) rest
    joins = parted ∙ ap (λ (l : List ℕ). done ++ l) (sym (ap (λ (l : List ℕ). take n rest ++ l) (take_rest rest n) ∙ take-append-drop n rest)) ∙ sym (append_assoc done (take n rest) (between n (length rest) rest))

-- while some of the piece is left, what is done is a part of it
pub done_in_part : (piece done rest : List ℕ) (before now : Option (List ℕ)) → piece ≡ done ++ rest → 0 < length rest → now ≡ append_known before done → (n : ℕ) × (n < length piece) × (now ≡ append_known before (take n piece))
done_in_part piece done rest before now parted some written = (length done, shorter, written ∙ ap (append_known before) (sym prefix))
  where
    shorter : length done < length piece
    shorter = omega (arith, ap length parted, length-append done rest)

    prefix : take (length done) piece ≡ done
    prefix = ap (λ (l : List ℕ). take (length done) l) parted ∙ take_at done rest (length done) refl
