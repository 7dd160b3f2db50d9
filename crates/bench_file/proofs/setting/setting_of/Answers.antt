use Rattle.std.proofs.Common.{◌≡◌, ℕ, List, refl, sym, arith, codes, Some}
use Rattle.std.proofs.lemmas.Slice.Eq.{text_from_reads}
use Rattle.bench_file.specs.Settings.{setting_of}
use Rattle.bench_file.proofs.setting.setting_of.Goals as goal

pub returns-in-regions : goal.returns-in-regions
returns-in-regions c =
    let word : c.args.word.now ≡ codes "regions" =
    text_from_reads c.args.word.now (codes "regions") (omega arith) (omega arith, (omega arith, (omega arith, (omega arith, (omega arith, (omega arith, (omega arith, tt))))))) in
    rw word refl

pub returns-in-sessions : goal.returns-in-sessions
returns-in-sessions c =
    let word : c.args.word.now ≡ codes "sessions" =
    text_from_reads c.args.word.now (codes "sessions") (omega arith) (omega arith, (omega arith, (omega arith, (omega arith, (omega arith, (omega arith, (omega arith, (omega arith, tt)))))))) in
    rw word refl

pub returns-in-versions : goal.returns-in-versions
returns-in-versions c =
    let word : c.args.word.now ≡ codes "versions" =
    text_from_reads c.args.word.now (codes "versions") (omega arith) (omega arith, (omega arith, (omega arith, (omega arith, (omega arith, (omega arith, (omega arith, (omega arith, tt)))))))) in
    rw word refl
