-- What the entries of an encoding say in the model: scales, and texts.
use Rattle.std.specs.Prelude.{◌≡◌, ℕ, List, [], Option, Some, None}
use Rattle.std.specs.Option.{option_map}
use Rattle.std.specs.Str.{is_utf8}
use Rattle.exact_scale.specs.declared.scaling.Scale.{Scale}
use Rattle.sig_text.specs.declared.token.Token.{Token}
use Rattle.sig_text.specs.Content.{content_of}
use Rattle.token_forms.specs.Numbers.{signed_text}
use Rattle.token_forms.specs.Scaling.{IsScaling, HasNoScaling}
use Rattle.bench_model.specs.declared.database.Entry.{Entry}
use Rattle.bench_model.specs.declared.database.Entry.TheVariants as model
use Rattle.ldf_grammar.specs.declared.statement.EncodingEntry.{EncodingEntry}
use Rattle.ldf_grammar.specs.declared.statement.EncodingEntry.TheVariants.{Logical, Physical, Plain}

-- what a string says, where there is one
abbrev pub text_in : List ℕ → Option Token → Option (List ℕ)
text_in text string = option_map (λ token. content_of text token (is_utf8 text)) string

-- a missing unit is empty
abbrev pub unit_or_empty : Option (List ℕ) → List ℕ
unit_or_empty None = []
unit_or_empty (Some unit) = unit

-- the entry in the model
abbrev pub IsEntryOf : List ℕ → EncodingEntry → Entry → Type 0
IsEntryOf text (Logical raw words) e = e ≡ model.Logical raw (text_in text words)
IsEntryOf text (Physical at low high scale offset unit) e =
    (s : Scale) × IsScaling (signed_text text scale) (signed_text text offset) s
    × (e ≡ model.Physical low high s (unit_or_empty (text_in text unit)))
IsEntryOf text Plain e = e ≡ model.Plain

-- an entry whose scaling is too wide, with its place
abbrev pub IsTooWide : List ℕ → EncodingEntry → ℕ → Type 0
IsTooWide text (Logical raw words) place = ⊥
IsTooWide text (Physical at low high scale offset unit) place =
    HasNoScaling (signed_text text scale) (signed_text text offset) × (place ≡ at)
IsTooWide text Plain place = ⊥
