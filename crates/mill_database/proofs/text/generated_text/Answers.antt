use Rattle.std.proofs.Common.{◌≡◌, ◌∙◌, ℕ, zero, suc, ◌+◌, List, [], ◌∷◌, ◌++◌, refl, ap, sym, arith, add-one, append_assoc}
use Rattle.std.specs.List.{flat_map, range_with_len}
use Rattle.mill_database.specs.GeneratedText.{message_count, message_text, generated_text}
use Rattle.mill_database.proofs.TextLaws.{one_more_message}
use Rattle.mill_database.proofs.text.generated_text.Goals as goal

pub loop-j-preserved : goal.loop-j-preserved
loop-j-preserved c = c.in_ok-push_message.ensures ∙ ap (λ xs. xs ++ message_text c.loop-j.j) c.loop-j.invariant ∙ sym (one_more_message c.loop-j.j)

pub returns : goal.returns
unfolding generated_text
returns c =
    let all : c.loop-j.j ≡ message_count = omega arith in
    c.loop-j.invariant ∙ ap (λ n. flat_map message_text (range_with_len 0 n)) all
