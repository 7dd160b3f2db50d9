use Rattle.std.proofs.Common.{◌≡◌, sym, subst, arith, IsUtf8}
use Rattle.std.proofs.lemmas.Grind.{common_steps}
use Rattle.sig_text.specs.Content.{content_of}
use Rattle.sig_text.proofs.ContentLaws.{quotes_of, IsUtf8-content_of}
use Rattle.sig_text.proofs.content.string_of.Goals as goal

pub slice_bounds-content-count : goal.slice_bounds-content-count
slice_bounds-content-count c = (quotes_of c.args.bytes.now c.args.token c.requires.string).apart

pub slice_bounds-content-start : goal.slice_bounds-content-start
slice_bounds-content-start c = (quotes_of c.args.bytes.now c.args.token c.requires.string).apart

pub returns-clause-utf8_text : goal.returns-clause-utf8_text
returns-clause-utf8_text c =
    let all : c.loop-place.text.items ≡ content_of c.args.bytes.now c.args.token c.args.utf8 = grind (arith, common_steps) in
    subst IsUtf8 (sym all) (IsUtf8-content_of c.args.bytes.now c.args.token c.args.utf8 c.requires.string c.requires.whole.0 (λ i. omega (arith, c.type_inv.bytes i)))
