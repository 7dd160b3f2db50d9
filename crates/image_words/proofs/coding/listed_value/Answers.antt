use Rattle.std.proofs.Common.{◌∙◌, ℤ, Some, find, refl, sym, ap, subst, arith}
use Rattle.std.proofs.Math.Facts.{to_z-of_z}
use Rattle.bench_model.specs.Meaning.{covers, entry_meaning}
use Rattle.image_words.specs.Reading.{IsCoded}
use Rattle.image_words.proofs.WordLaws.{learned_none, learned_then, earlier}
use Rattle.image_words.proofs.EntryLaws.{entry_scale, entry_found, entry_passed, entry_missing, none_coded}
use Rattle.image_words.proofs.coding.listed_value.Goals as goal

pub loop-i-init : goal.loop-i-init
loop-i-init g c = record { learned = learned_none _ _ g.met.W.Words.same _; rest = λ raw same image bench f entries has. refl }

pub entry_value-requires-clause-scale : goal.entry_value-requires-clause-scale
entry_value-requires-clause-scale g c kind =
    entry_scale _ _ _ _ _ _ (learned_then _ _ g.met.W.Words.chain _ _ _ c.loop-i.invariant.learned c.entry_at-entry.ensures.learned).narrows
    c.requires.some c.requires.entries c.entry_at-entry.ensures.entry kind

pub returns-then-is_covered-clause-learned : goal.returns-then-is_covered-clause-learned
returns-then-is_covered-clause-learned g c =
    learned_then _ _ g.met.W.Words.chain _ _ _ c.loop-i.invariant.learned c.entry_at-entry.ensures.learned

pub returns-then-is_covered-clause-coded : goal.returns-then-is_covered-clause-coded
returns-then-is_covered-clause-coded g c image bench f entries has =
    let kept = to_z-of_z c.ranges.raw in
    let row = c.entry_at-entry.ensures.entry image bench f entries has in
    let found = entry_found image entries c.args.raw c.loop-i.i c.entry_at-entry.result row
    (ap (λ (r : ℤ). covers r row.entry) (sym kept) ∙ c.is_covered.ensures image row.entry row.is_of ∙ c.if-is_covered.true)
    (c.loop-i.invariant.rest c.args.raw (sym kept) image bench (earlier _ _ _ _ image bench c.entry_at-entry.ensures.learned f) entries has) in
    let P : ℤ → Type 0 = λ r. IsCoded image c.entry_value.result (entry_meaning r (Some row.entry)) in
    rw found (subst P kept (c.entry_value.ensures image row.entry row.is_of))

pub loop-i-preserved : goal.loop-i-preserved
loop-i-preserved g c = record {
  learned = learned_then _ _ g.met.W.Words.chain _ _ _ c.loop-i.invariant.learned c.entry_at-entry.ensures.learned;
  rest = λ raw same image bench f entries has.
      c.loop-i.invariant.rest raw same image bench (earlier _ _ _ _ image bench c.entry_at-entry.ensures.learned f) entries has
      ∙ (let row = c.entry_at-entry.ensures.entry image bench f entries has in
      entry_passed image entries raw c.loop-i.i c.entry_at-entry.result row
      (ap (λ (r : ℤ). covers r row.entry) same ∙ c.is_covered.ensures image row.entry row.is_of ∙ c.if-is_covered.false));
}

pub returns-clause-coded : goal.returns-clause-coded
returns-clause-coded g c image bench f entries has =
    let kept = to_z-of_z c.ranges.raw in
    none_coded image c.itself.result c.args.raw _ (find (covers c.args.raw) entries)
    (entry_missing entries c.args.raw c.loop-i.i (omega (arith, has.rows.size))
    (c.loop-i.invariant.rest c.args.raw (sym kept) image bench f entries has)) kept c.itself.ensures
