use Rattle.std.proofs.Common.{[], ◌∷◌, ap, ◌∙◌, ◌++◌, rules}
use Rattle.std.specs.Prelude.{FitsSigned}
use Rattle.std.specs.Int.{w128}
use Rattle.std.specs.Fmt.{signed_decimal}
use Rattle.std.proofs.lemmas.Int.{to_z-of_z}
use Rattle.std.proofs.lemmas.Result.{on_ok_weaker}
use Rattle.exact_scale.specs.ShortestText.{decimal_text}
use Rattle.text_words.specs.SpacedWords.{behind_blank}
use Rattle.subscriber_text.specs.ItemText.{quoted}
use Rattle.subscriber_text.specs.LineParts.{label_text}
use Rattle.subscriber_text.specs.PartsView.{signal_view}
use Rattle.subscriber_text.proofs.JoinLaws.{signal_joined}
use Rattle.subscriber_text.proofs.signal.append_signal.Goals as goal

pub returns-clause-ok : goal.returns-clause-ok
returns-clause-ok c =
    let s = signal_view c.args.signal in
    let fits : FitsSigned w128 s.raw = search rules in
    on_ok_weaker c.append_label.result
    (λ written. signal_joined c.args.out.now.items c.append_words.new.out.items c.append_raw.new.out.items c.append_value.new.out.items c.append_text.new.out.items
    c.append_label.new.out.items (115 ∷ []) (behind_blank s.name) (behind_blank (signed_decimal s.raw)) (behind_blank (decimal_text s.value.num s.value.k))
    (behind_blank (quoted s.unit)) (label_text s.label) (10 ∷ [])
    c.in_ok-append_words.ensures.ok
    (c.in_ok-append_raw.ensures.ok ∙ ap (λ raw. c.append_words.new.out.items ++ behind_blank (signed_decimal raw)) (to_z-of_z w128 s.raw fits))
    c.in_ok-append_value.ensures.ok
    c.in_ok-append_text.ensures.ok written)
    c.append_label.ensures.ok
