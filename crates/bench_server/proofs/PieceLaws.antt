-- Pieces that are written one after another.
use Rattle.std.proofs.Common.{◌≡◌, ℕ, ◌+◌, ◌<◌, ◌≤◌, List, ◌++◌, Option, refl, sym, ap, ◌∙◌, append_assoc, arith, inr, take, drop, length, get_or, add-one, drop-cons, take-append-drop, true, false}
use Rattle.std.specs.Borrow.{Bor}
use Rattle.std.specs.Prelude.{Result, Ok, Err, IsErr}
use Rattle.std.specs.Io.KnownBytes.{append_known}
use Rattle.port_io.specs.Causes.{Rose}
use Rattle.port_io.specs.OtherSide.{SinkState}
use Rattle.bench_server.specs.Pieces.{WritesPrefix, WritesText, joined}
use Rattle.bench_server.proofs.OptionLaws.{append_known-append}

-- what was sent and the pieces that are left are all the pieces
pub record Sent (before : SinkState) (pieces : List (Bor (List ℕ))) (i : ℕ) (now : SinkState) : Type 0 where
  pub sent : List ℕ
  pub parted : sent ++ joined (drop i pieces) ≡ joined pieces
  pub written : now.written ≡ append_known before.written sent
  pub later : before.write_faults ≤ now.write_faults

pub rose_since : (a b c : ℕ) → a ≤ b → Rose b c → Rose a c
rose_since a b c h r = omega arith

-- the pieces from this one on
joined-drop : (i : ℕ) (pieces : List (Bor (List ℕ))) (d : Bor (List ℕ)) → i < length pieces → joined (drop i pieces) ≡ (get_or pieces i d).now ++ joined (drop (i + 1) pieces)
joined-drop i pieces d h = rw (add-one, drop-cons pieces i d) refl

module _ (before was now : SinkState) (pieces : List (Bor (List ℕ))) (i : ℕ) (d : Bor (List ℕ)) (within : i < length pieces) (s : Sent before pieces i was) where
  -- a piece more was sent whole
  pub sent_more : now.written ≡ append_known was.written (get_or pieces i d).now → was.write_faults ≤ now.write_faults → Sent before pieces (i + 1) now
  sent_more w later = record {
    sent = s.sent ++ (get_or pieces i d).now;
    parted = append_assoc s.sent (get_or pieces i d).now (joined (drop (i + 1) pieces)) ∙ ap (λ (xs : List ℕ). s.sent ++ xs) (sym (joined-drop i pieces d within)) ∙ s.parted;
    written = w ∙ ap (λ (o : Option (List ℕ)). append_known o (get_or pieces i d).now) s.written ∙ append_known-append before.written s.sent (get_or pieces i d).now;
    later = omega (arith, s.later, later);
  }

  -- a prefix of a piece was sent, and the count rose
  pub sent_part : (n : ℕ) → now.written ≡ append_known was.written (take n (get_or pieces i d).now) → Rose was.write_faults now.write_faults → was.write_faults ≤ now.write_faults
      → WritesPrefix before (joined pieces) now
  sent_part n w rose later =
      let piece : List ℕ = (get_or pieces i d).now in
      record {
        sent = s.sent ++ take n piece;
        rest = drop n piece ++ joined (drop (i + 1) pieces);
        parted = append_assoc s.sent (take n piece) (drop n piece ++ joined (drop (i + 1) pieces))
            ∙ ap (λ (xs : List ℕ). s.sent ++ xs) (sym (append_assoc (take n piece) (drop n piece) (joined (drop (i + 1) pieces))) ∙ ap (λ (xs : List ℕ). xs ++ joined (drop (i + 1) pieces)) (take-append-drop n piece)
            ∙ sym (joined-drop i pieces d within)) ∙ s.parted;
        written = w ∙ ap (λ (o : Option (List ℕ)). append_known o (take n piece)) s.written ∙ append_known-append before.written s.sent (take n piece);
        later = omega (arith, s.later, later);
        cut = inr (rose_since before.write_faults was.write_faults now.write_faults s.later rose);
      }

-- a prefix was sent, and an error answered
pub sent_cut : {E : Type 0} (before now : SinkState) (text : List ℕ) (result : Result (Unit {0}) E) → IsErr result → WritesPrefix before text now → Rose before.write_faults now.write_faults
    → WritesText before text result now
sent_cut before now text (Ok done) h prefix rose = absurd (let e : false ≡ true = h in cc)
sent_cut before now text (Err why) h prefix rose = record { prefix = prefix; all = tt; cause = rose }
