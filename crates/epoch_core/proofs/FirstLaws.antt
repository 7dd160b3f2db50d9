-- The first state keeps the rule.
use Rattle.std.proofs.Common.{◌≡◌, ◌≢◌, ℕ, zero, suc, ◌+◌, ◌-◌, ◌<◌, Bool, true, false, List, [], ◌∷◌, length, replicate, get_or, Option, None, inl, inr, sym, subst, refl, arith, ◌∙◌}
use Rattle.std.specs.List.{All}
use Rattle.std.proofs.lemmas.Bool.Decides.{leb_tells}
use Rattle.std.proofs.lemmas.List.{get_or_past, get_or-replicate, length-replicate}
use Rattle.std.proofs.lemmas.List.Elements.{All-replicate, All-cons}
use Rattle.std.proofs.Math.Seq.{take-length}
use Rattle.epoch_core.specs.declared.lane.LaneState.{LaneState}
use Rattle.epoch_core.specs.declared.lane.LaneState.TheVariants.{Idle, Holding}
use Rattle.epoch_core.specs.Machine.{first}
use Rattle.epoch_core.specs.Rule.{RegionRule, Announces, IsSpare}
use Rattle.epoch_core.specs.Runs.{AreWithinLimits}

-- what is repeated reads the same everywhere, where it is the default too
repeated_reads : {X : Type 0} (n i : ℕ) (x : X) → get_or (replicate n x) i x ≡ x
repeated_reads n i x =
    elim (leb_tells n i) as (λ _. get_or (replicate n x) i x ≡ x) [
      | inl past ↦ get_or_past (replicate n x) i x (omega (arith, length-replicate n x, past.1))
      | inr within ↦ get_or-replicate n i x x within.1
    ]

others_cleared : (row : List Bool) (n lanes region : ℕ) → region ≢ 0 → region < n + 1 →
    All (λ is. is ≡ true) (get_or (row ∷ replicate n (replicate lanes true)) region [])
others_cleared row n lanes zero other within = absurd (other refl)
others_cleared row n lanes (suc region) other within =
    let P : List Bool → Type 0 = λ bs. All (λ is. is ≡ true) bs in
    subst P (sym (get_or-replicate n region (replicate lanes true) [] (omega arith))) (All-replicate (λ is. is ≡ true) lanes true refl)

pub first_kept : (regions lanes : ℕ) (image : List ℕ) → AreWithinLimits regions lanes → RegionRule (first regions lanes image)
first_kept regions lanes image limits =
    let count : length (replicate (regions - 1) (replicate lanes true)) ≡ regions - 1 = length-replicate (regions - 1) (replicate lanes true) in
    let empty : List ℕ = [] in
    let size : length (replicate (regions - 1) empty) ≡ regions - 1 = length-replicate (regions - 1) empty in
    let never : Option ℕ = None in
    record {
      well_formed = record {
        published = omega arith;
        version = omega arith;
        pins = length-replicate lanes 0 ∙ sym (length-replicate lanes Idle);
        retired = length-replicate regions never ∙ omega (arith, size, limits.some_regions);
        cleared = omega (arith, size, count);
        by_lane = All-cons (λ row. length row ≡ length (replicate lanes Idle)) (replicate lanes false) (replicate (regions - 1) (replicate lanes true))
            (length-replicate lanes false ∙ sym (length-replicate lanes Idle))
            (All-replicate (λ row. length row ≡ length (replicate lanes Idle)) (regions - 1) (replicate lanes true)
            (length-replicate lanes true ∙ sym (length-replicate lanes Idle)));
      };
      published = (refl, take-length image, repeated_reads regions 0 never, All-replicate (λ is. is ≡ false) lanes false refl);
      epoch = (omega arith, omega arith);
      pins = λ lane.
          let P : LaneState → Type 0 = λ s. Announces 0 s (get_or (replicate lanes 0) lane 0) in
          subst P (sym (repeated_reads lanes lane Idle)) (repeated_reads lanes lane 0);
      spare = λ region within other.
          let P : Option ℕ → Type 0 = λ o. IsSpare (first regions lanes image) region o in
          subst P (sym (repeated_reads regions region never))
          (others_cleared (replicate lanes false) (regions - 1) lanes region other (omega (arith, size, within)));
      held = λ lane epoch version region holds.
          let idle : Idle ≡ Holding epoch version region = sym (repeated_reads lanes lane Idle) ∙ holds in absurd (cc idle);
      written = λ region is. absurd (cc is);
    }
