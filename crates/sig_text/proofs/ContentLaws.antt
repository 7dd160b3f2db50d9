-- The content of a string, and that it is UTF-8.
use Rattle.std.proofs.Common.{◌≡◌, ℕ, ◌+◌, ◌-◌, ◌<◌, ◌≤◌, ◌==◌, ◌&&◌, Bool, true, false, List, [], ◌∷◌, ◌++◌, length, get_or, take, drop, sym, refl, ap, ◌∙◌, subst, ◌⊎◌, inl, inr, arith, suc, length-take, length-drop, get_or-take, get_or-drop, IsUtf8}
use Rattle.std.specs.Prelude.{slice_range}
use Rattle.std.specs.List.{flat_map}
use Rattle.std.proofs.Math.Utf8.{encode, encodes, scalars, low_scalar}
use Rattle.std.proofs.lemmas.Bool.{cases_eq, cases_lt, cases_Bool, and_parts, ne_eqb}
use Rattle.std.proofs.lemmas.List.{append-nil, get_or_past}
use Rattle.std.proofs.lemmas.Str.{IsUtf8-append, IsUtf8-nil, IsUtf8-encode, IsUtf8-between, IsCharBoundary-before_ascii, IsCharBoundary-after_ascii, encode_ascii, inside_one}
use Rattle.sig_text.specs.Content.{IsStringOf, unescaped, between_quotes, encoded, content_of}
use Rattle.sig_text.specs.Lexemes.{IsString, IsLexeme}
use Rattle.sig_text.specs.declared.token.Token.{Token}
use Rattle.sig_text.proofs.StringLaws.{string_end}
use Rattle.sig_text.proofs.BlankLaws.{first_of_rest, read_of_prefix}

-- bytes without a backslash stand for themselves
unescaped_plain : (xs rest : List ℕ) → ((k : ℕ) → k < length xs → get_or xs k 0 ≡ 92 → ⊥) → unescaped (xs ++ rest) ≡ xs ++ unescaped rest
unescaped_plain [] rest plain = refl
unescaped_plain (b ∷ xs) rest plain =
    rw (ne_eqb b 92 (plain 0 (omega arith))) (ap (λ s. b ∷ s) (unescaped_plain xs rest (λ k inside. plain (suc k) (omega arith))))

-- one character of the content
unescaped_char : (c : ℕ) (rest : List ℕ) → (unescaped (encode c ++ rest) ≡ unescaped rest) ⊎ (unescaped (encode c ++ rest) ≡ encode c ++ unescaped rest)
unescaped_char c rest =
    elim (cases_eq c 92) [
      | inl backslash ↦
          elim (cases_Bool (get_or rest 0 0 == 34)) [
            | inl quote ↦ inl (ap (λ d. unescaped (encode d ++ rest)) backslash ∙ ap (λ s. unescaped (s ++ rest)) (encode_ascii 92 (omega arith)) ∙ rw quote refl)
            | inr other ↦
                inr (ap (λ d. unescaped (encode d ++ rest)) backslash ∙ ap (λ s. unescaped (s ++ rest)) (encode_ascii 92 (omega arith)) ∙ rw other refl ∙ ap (λ s. s ++ unescaped rest) (sym (encode_ascii 92 (omega arith))) ∙ ap (λ d. encode d ++ unescaped rest) (sym backslash))
          ]
      | inr plain ↦
          inr (unescaped_plain (encode c) rest (λ k inside backslash. plain (inside_one c [] (encode c) k (sym (append-nil (encode c))) inside (omega arith) ∙ backslash)))
    ]

-- the escapes of whole characters leave whole characters
unescaped_chars : (cs : List ℕ) → scalars cs ≡ true → IsUtf8 (unescaped (encodes cs))
unescaped_chars [] all = IsUtf8-nil
unescaped_chars (c ∷ cs) all =
    let parts = and_parts _ _ all in
    let rest = unescaped_chars cs parts.1 in
    elim (unescaped_char c (encodes cs)) [
      | inl escape ↦ subst IsUtf8 (sym escape) rest
      | inr plain ↦ subst IsUtf8 (sym plain) (IsUtf8-append (encode c) (unescaped (encodes cs)) (IsUtf8-encode c parts.0) rest)
    ]

-- what is left of UTF-8 text without its escapes is UTF-8
pub IsUtf8-unescaped : (bytes : List ℕ) → IsUtf8 bytes → IsUtf8 (unescaped bytes)
IsUtf8-unescaped bytes utf8 = subst (λ s. IsUtf8 (unescaped s)) utf8.1.1 (unescaped_chars utf8.0 utf8.1.0)

-- each byte of UTF-8 text stands for itself
pub flat_map-encoded : (bytes : List ℕ) → flat_map (encoded true) bytes ≡ bytes
flat_map-encoded [] = refl
flat_map-encoded (b ∷ bytes) = ap (λ s. b ∷ s) (flat_map-encoded bytes)

-- bytes taken as characters are UTF-8
pub IsUtf8-latin : (bytes : List ℕ) → ((i : ℕ) → get_or bytes i 0 < 256) → IsUtf8 (flat_map (encoded false) (unescaped bytes))
IsUtf8-latin [] small = IsUtf8-nil
IsUtf8-latin (b ∷ bytes) small =
    let rest = IsUtf8-latin bytes (λ i. small (suc i)) in
    elim (cases_Bool (b == 92 && (get_or bytes 0 0 == 34))) [
      | inl escape ↦ rw escape rest
      | inr plain ↦ rw plain (IsUtf8-append (encode b) _ (IsUtf8-encode b (low_scalar b (omega (arith, small 0)))) rest)
    ]

-- where the quotes of a string token are
pub record Quotes (text : List ℕ) (token : Token) : Type 0 where
  pub apart : token.at + 1 ≤ token.end - 1
  pub within : token.end ≤ length text
  pub opening : get_or text token.at 0 ≡ 34
  pub closing : get_or text (token.end - 1) 0 ≡ 34

-- a string token is between two quotes
pub quotes_of : (text : List ℕ) (token : Token) → IsStringOf text token → Quotes text token
quotes_of text token is =
    let rest = drop token.at text in
    let n = token.end - token.at in
    let ordered = is.is_there.ordered in
    let inside = is.is_there.within in
    let string : IsString (take n rest) = subst (λ kind. IsLexeme kind (slice_range text token.at token.end)) is.kind is.is_there.lexeme in
    let end = string_end rest n (omega (arith, length-drop token.at text)) string in
    let last : token.at + (n - 1) ≡ token.end - 1 = omega (arith, end.0) in
    record {
      apart = omega (arith, end.0);
      within = inside;
      opening = sym (first_of_rest text token.at) ∙ read_of_prefix n rest 0 34 (omega arith) string.opening;
      closing = ap (λ k. get_or text k 0) (sym last) ∙ sym (get_or-drop token.at text (n - 1) 0) ∙ end.1.closing;
    }

-- the content of a string of UTF-8 text is UTF-8
IsUtf8-between_quotes : (text : List ℕ) (token : Token) → IsStringOf text token → IsUtf8 text → IsUtf8 (between_quotes text token)
IsUtf8-between_quotes text token is utf8 =
    let quotes = quotes_of text token is in
    let apart = quotes.apart in
    let within = quotes.within in
    IsUtf8-between text (token.at + 1) (token.end - 1) utf8 quotes.apart
    (IsCharBoundary-after_ascii text token.at utf8 (omega arith) (omega (arith, quotes.opening)))
    (IsCharBoundary-before_ascii text (token.end - 1) (omega arith) (omega (arith, quotes.closing)))

-- bytes of a part are bytes
slice_small : (text : List ℕ) (from to : ℕ) → ((i : ℕ) → get_or text i 0 < 256) → (i : ℕ) → get_or (slice_range text from to) i 0 < 256
slice_small text from to small i =
    elim (cases_lt i (to - from)) [
      | inl inside ↦ omega (arith, get_or-take (to - from) (drop from text) i 0 inside, get_or-drop from text i 0, small (from + i))
      | inr past ↦ omega (arith, get_or_past (slice_range text from to) i 0 (omega (arith, length-take (to - from) (drop from text))))
    ]

-- what a string says is UTF-8, whatever the text is
pub IsUtf8-content_of : (text : List ℕ) (token : Token) (utf8 : Bool) → IsStringOf text token → (utf8 ≡ true → IsUtf8 text) → ((i : ℕ) → get_or text i 0 < 256) → IsUtf8 (content_of text token utf8)
IsUtf8-content_of text token true is whole small =
    subst IsUtf8 (sym (flat_map-encoded (unescaped (between_quotes text token)))) (IsUtf8-unescaped _ (IsUtf8-between_quotes text token is (whole refl)))
IsUtf8-content_of text token false is whole small = IsUtf8-latin (between_quotes text token) (slice_small text (token.at + 1) (token.end - 1) small)
