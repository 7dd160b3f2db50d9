-- The words that begin the statements of the DBC format.
use Rattle.std.specs.Prelude.{ℕ, ◌&&◌, ◌||◌, Bool, true, false, not, List, [], ◌∷◌, codes}
use Rattle.std.specs.List.{list_any}
use Rattle.std.specs.Str.{bytes_eq}
use Rattle.sig_text.specs.declared.token.TokenKind.{TokenKind}
use Rattle.sig_text.specs.declared.token.TokenKind.TheVariants.{Word, Number, Str, Sign}
use Rattle.sig_text.specs.declared.token.Token.{Token}
use Rattle.token_forms.specs.Pieces.{token_text}

-- words whose statements have forms of their own
unfoldable pub form_words : List (List ℕ)
form_words =
    codes "VERSION" ∷ codes "NS_" ∷ codes "BS_" ∷ codes "BU_" ∷ codes "BO_" ∷ codes "SG_" ∷ codes "VAL_"
    ∷ codes "SIG_VALTYPE_" ∷ codes "SG_MUL_VAL_" ∷ []

-- words whose statements are any tokens up to a `;`, and are not kept
unfoldable pub unkept_words : List (List ℕ)
unkept_words =
    codes "VAL_TABLE_" ∷ codes "BO_TX_BU_" ∷ codes "EV_"
    ∷ codes "EV_DATA_" ∷ codes "ENVVAR_DATA_" ∷ codes "SGTYPE_" ∷ codes "SGTYPE_VAL_"
    ∷ codes "SIGTYPE_VALTYPE_" ∷ codes "SIG_TYPE_REF_" ∷ codes "BA_DEF_SGTYPE_" ∷ codes "BA_SGTYPE_"
    ∷ codes "CM_" ∷ codes "BA_DEF_" ∷ codes "BA_DEF_REL_" ∷ codes "BA_DEF_DEF_" ∷ codes "BA_DEF_DEF_REL_"
    ∷ codes "BA_" ∷ codes "BA_REL_" ∷ codes "BU_SG_REL_" ∷ codes "BU_EV_REL_" ∷ codes "BU_BO_REL_"
    ∷ codes "SIG_GROUP_" ∷ codes "CAT_" ∷ codes "CAT_DEF_" ∷ codes "FILTER" ∷ codes "NS_DESC_" ∷ []

abbrev pub is_among : List ℕ → List (List ℕ) → Bool
is_among text words = list_any (bytes_eq text) words

abbrev pub is_statement_word : List ℕ → Bool
is_statement_word text = is_among text form_words || is_among text unkept_words

-- whether a token is of the kind Word
abbrev pub is_word_kind : TokenKind → Bool
is_word_kind Word = true
is_word_kind Number = false
is_word_kind Str = false
is_word_kind Sign = false

-- a Word that is no statement word
abbrev pub is_free_word : List ℕ → Token → Bool
is_free_word text token = is_word_kind token.kind && not (is_statement_word (token_text text token))
