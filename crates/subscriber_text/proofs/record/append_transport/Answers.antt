use Rattle.std.proofs.Common.{[], ◌∷◌}
use Rattle.std.specs.Fmt.{decimal}
use Rattle.std.proofs.lemmas.Result.{on_ok_weaker}
use Rattle.text_words.specs.SpacedWords.{behind_blank}
use Rattle.subscriber_text.specs.ItemText.{hex_bytes}
use Rattle.subscriber_text.proofs.JoinLaws.{transport_joined}
use Rattle.subscriber_text.proofs.record.append_transport.Goals as goal

pub returns-clause-ok : goal.returns-clause-ok
returns-clause-ok c = on_ok_weaker c.append_line.result
    (λ written. transport_joined c.args.out.now.items c.append_group.new.out.items c.push.new.self.items c.append_hex.new.out.items c.append_line.new.out.items
    (behind_blank (decimal c.args.pgn)) (behind_blank (decimal c.args.sa)) (behind_blank (decimal c.args.da)) (32 ∷ []) (hex_bytes c.args.bytes.now) (behind_blank c.args.name.now) (10 ∷ [])
    c.in_ok-append_group.ensures.ok c.in_ok-push.ensures.items c.in_ok-append_hex.ensures.ok written)
    c.append_line.ensures.ok
