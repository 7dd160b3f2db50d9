use Rattle.std.proofs.Common.{◌≡◌, sym, refl}
use Rattle.ldf_grammar.specs.Lookup.{pair_of}
use Rattle.ldf_grammar.proofs.StepLaws.{map_step}
use Rattle.ldf_grammar.proofs.LookupLaws.{lent_begin, lent_go_on}
use Rattle.ldf_grammar.proofs.lookups.encoding_entries.Goals as goal

pair_is : {A B : Type 0} (a b : A) (c d : B) → a ≡ b → c ≡ d → ◌≡◌ {A = A × B} (a, c) (b, d)
pair_is a b c d e f = rw (e, f) refl

pub loop-encoding-init : goal.loop-encoding-init
loop-encoding-init c = lent_begin c.new-firsts.result c.new-firsts.ensures.empty

pub loop-encoding-preserved : goal.loop-encoding-preserved
loop-encoding-preserved c =
    lent_go_on c.loop-encoding.firsts c.add_value.new.firsts _ _ c.token_text.result.now c.items.result c.loop-encoding.invariant c.in_ok-add_value.ensures
    (map_step (pair_of c.args.bytes.now) c.args.encodings.now c.loop-encoding.encoding-index c.encoding-item.result _ c.loop-encoding-test.true c.encoding-item.is (pair_is _ _ _ _ (sym c.token_text.ensures) (sym c.items.ensures)))
