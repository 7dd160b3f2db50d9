use Rattle.std.proofs.Common.{◌≡◌, ◌++◌, drop}
use Rattle.std.specs.List.{flat_map}
use Rattle.sig_text.specs.Content.{unescaped, encoded}
use Rattle.token_forms.proofs.content.content_between.Given as goal

-- the text so far and what the rest of the content stands for are what all of it stands for
abbrev pub invariant-loop-place : goal.invariant-loop-place
invariant-loop-place l = l.text.items ++ flat_map (encoded l.utf8) (unescaped (drop l.place l.content)) ≡ flat_map (encoded l.utf8) (unescaped l.content)
