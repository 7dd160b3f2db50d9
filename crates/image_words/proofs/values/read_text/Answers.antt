use Rattle.std.proofs.Common.{◌∙◌, ◌++◌, List, ℕ, ap}
use Rattle.image_words.proofs.values.read_text.Goals as goal

pub returns-clause-text : goal.returns-clause-text
returns-clause-text g c image bench f own has =
    c.in_ok-append_text.ensures.text image bench f own has ∙ ap (λ (before : List ℕ). before ++ own) c.clear.ensures.items
