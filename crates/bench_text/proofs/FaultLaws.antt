-- Where all logs show their bytes, those of the logs before the one at which a print stopped are the first ones, and what was
-- written is a prefix of the text of the bench.
use Rattle.std.proofs.Common.{◌≡◌, ℕ, List, [], ◌∷◌, ◌++◌, length, take, Option, None, Some, IfSome, refl, sym, ap, subst, ◌∙◌}
use Rattle.std.proofs.Math.Seq.{take-append_seam}
use Rattle.std.specs.Prelude.{slice_get}
use Rattle.std.specs.Io.KnownBytes.{prepend_known, append_known}
use Rattle.port_io.specs.OtherSide.{SourceState, SinkState}
use Rattle.bench_model.specs.declared.database.Bench.{Bench}
use Rattle.subscriber_text.specs.Wants.{WantList}
use Rattle.bench_text.specs.BenchText.{part_text, bench_text}
use Rattle.bench_text.specs.LogsRead.{HaveLeft, StopsAt}
use Rattle.bench_text.specs.Printing.{PrintsTo}
use Rattle.bench_text.proofs.ListLaws.{Parted, zip_parted, zip_length}
use Rattle.bench_text.proofs.TextLaws.{IsPrefix, fault_prefix}

abbrev HasLeft : SourceState → List ℕ → Type 0
HasLeft log left = log.left ≡ Some left

module _ (place : ℕ) (logs logs_now : List SourceState) (s : StopsAt place logs logs_now) (bytes : List (List ℕ)) (known : HaveLeft logs bytes) where
  parts : Parted HasLeft s.heard s.log s.behind bytes
  parts = let P : List SourceState → Type 0 = λ l. HaveLeft l bytes in zip_parted HasLeft s.heard s.log s.behind bytes (subst P s.parted known)

  count : length parts.first ≡ place
  count = sym (zip_length HasLeft s.heard parts.first parts.first_zip) ∙ s.count

  first_bytes : take place bytes ≡ parts.first
  first_bytes = ap (λ k. take k bytes) (sym count) ∙ ap (λ (l : List (List ℕ)). take (length parts.first) l) parts.parted ∙ take-append_seam parts.first (parts.one ∷ parts.rest)

  pub known_before : HaveLeft s.heard (take place bytes)
  known_before = let P : List (List ℕ) → Type 0 = λ l. HaveLeft s.heard l in subst P (sym first_bytes) parts.first_zip

  pub known_there : (left : List ℕ) × (slice_get bytes place ≡ Some left) × (s.log.left ≡ Some left)
  known_there = (parts.one, ap (λ (l : List (List ℕ)). slice_get l place) parts.parted ∙ ap (λ k. slice_get (parts.first ++ parts.one ∷ parts.rest) k) (sym count) ∙ get_at parts.first parts.one parts.rest, parts.one_zip)
    where
      get_at : (xs : List (List ℕ)) (x : List ℕ) (ys : List (List ℕ)) → slice_get (xs ++ x ∷ ys) (length xs) ≡ Some x
      get_at [] x ys = refl
      get_at (z ∷ xs) x ys = get_at xs x ys

some_same : {A : Type 0} (x y : A) → Some x ≡ Some y → x ≡ y
some_same x y e = cc

none_some : {A : Type 0} (x : A) → Some x ≡ None → ⊥
none_some x e = cc

-- the bytes taken of a log that shows its bytes, and those that it still has
taken_first : (one took : List ℕ) (now : Option (List ℕ)) → Some one ≡ prepend_known took now → (left : List ℕ) × (one ≡ took ++ left)
taken_first one took None e = absurd (none_some one e)
taken_first one took (Some left) e = (left, some_same one (took ++ left) e)

written_known : {P : Type 0} (o : Option (List ℕ)) (one : List ℕ) → o ≡ Some one → IfSome o (λ _. P) → P
written_known {P} o one e h = let Q : Option (List ℕ) → Type 0 = λ x. IfSome x (λ _. P) in subst Q e h

pub fault_written : IsPrefix
    → (w : WantList) (bench : Bench) (place : ℕ) (logs logs_now : List SourceState) (out out_now : SinkState)
    → PrintsTo w bench place logs logs_now out out_now → (bytes : List (List ℕ)) → HaveLeft logs bytes
    → (sent ahead : List ℕ) × (out_now.written ≡ append_known out.written sent) × (sent ++ ahead ≡ bench_text w bench bytes)
fault_written prefix w bench place logs logs_now out out_now p bytes known =
    let s = p.stops in
    let d = parts place logs logs_now s bytes known in
    let n = count place logs logs_now s bytes known in
    let t = taken_first d.one s.took s.log_now.left (sym d.one_zip ∙ s.takes.left) in
    let r = fault_prefix prefix w bench d.first d.rest s.took t.0 in
    let sent = bench_text w bench d.first ++ part_text w bench place s.took in (
      sent,
      r.0,
      written_known s.log.left d.one d.one_zip (p.text d.first d.first_zip),
      ap (λ k. (bench_text w bench d.first ++ part_text w bench k s.took) ++ r.0) (sym n) ∙ sym r.1
          ∙ ap (λ (b : List ℕ). bench_text w bench (d.first ++ b ∷ d.rest)) (sym t.1)
          ∙ ap (λ (l : List (List ℕ)). bench_text w bench l) (sym d.parted),
    )
