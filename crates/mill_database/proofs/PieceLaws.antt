-- A text that is pieces, each a token and the blanks behind it, has these tokens.
use Rattle.std.proofs.Common.{◌≡◌, ℕ, zero, suc, ◌+◌, ◌-◌, ◌<◌, ◌≤◌, Bool, true, false, List, [], ◌∷◌, ◌++◌, length, get_or, take, drop, sym, refl, ap, ◌∙◌, subst, arith, length-append, append_assoc}
use Rattle.std.specs.Prelude.{slice_range, IsTrue}
use Rattle.std.specs.List.{flat_map}
use Rattle.std.proofs.lemmas.List.{drop_at, take_at, append-nil}
use Rattle.std.proofs.lemmas.List.Concat.{flat_map-append}
use Rattle.sig_text.specs.Bytes.{is_space}
use Rattle.sig_text.specs.Blank.{IsBlank, IsBlankText, space, IsSpace}
use Rattle.sig_text.specs.Lexemes.{IsLexeme}
use Rattle.sig_text.specs.Tokens.{IsToken, AreBlanks, IsGap, AreTokens, IsTokens}
use Rattle.sig_text.specs.declared.token.TokenKind.{TokenKind}
use Rattle.sig_text.specs.declared.token.Token.{Token}
use Rattle.token_forms.specs.Pieces.{token_text}

-- a token's kind and bytes, and the blanks behind it
pub record Piece : Type 0 where
  pub kind : TokenKind
  pub bytes : List ℕ
  pub gap : List ℕ

abbrev pub piece_text : Piece → List ℕ
piece_text p = p.bytes ++ p.gap

abbrev pub render : List Piece → List ℕ
render ps = flat_map piece_text ps

-- the token of a piece that begins at a place, and the place behind its blanks
abbrev pub token_of : ℕ → Piece → Token
token_of at p = record { kind = p.kind; at = at; end = at + length p.bytes }

abbrev pub behind : ℕ → Piece → ℕ
behind at p = at + length p.bytes + length p.gap

abbrev pub tokens_of : ℕ → List Piece → List Token
tokens_of at [] = []
tokens_of at (p ∷ ps) = token_of at p ∷ tokens_of (behind at p) ps

-- no token begins with these bytes and one more
abbrev pub Stops : List ℕ → List ℕ → Type 0
Stops bytes [] = Unit {0}
Stops bytes (c ∷ after) = (kind : TokenKind) (rest : List ℕ) → ¬ IsLexeme kind (bytes ++ c ∷ rest)

abbrev pub AreSpaces : List ℕ → Type 0
AreSpaces [] = Unit {0}
AreSpaces (b ∷ bs) = IsTrue (is_space b) × AreSpaces bs

-- a piece before this text is a token and blanks
pub record IsPiece (p : Piece) (after : List ℕ) : Type 0 where
  pub some : 0 < length p.bytes
  pub lexeme : IsLexeme p.kind p.bytes
  pub spaces : AreSpaces p.gap
  pub stops : Stops p.bytes (p.gap ++ after)

abbrev pub ArePieces : List Piece → List ℕ → Type 0
ArePieces [] after = Unit {0}
ArePieces (p ∷ ps) after = IsPiece p (render ps ++ after) × ArePieces ps after

-- the bytes of the text where the tokens of the pieces are
abbrev pub HasTexts : List ℕ → ℕ → List Piece → Type 0
HasTexts text at [] = Unit {0}
HasTexts text at (p ∷ ps) = (token_text text (token_of at p) ≡ p.bytes) × HasTexts text (behind at p) ps

-- what is between two lists
range_at : (before mid after : List ℕ) (from to : ℕ) → length before ≡ from → length mid + from ≡ to → slice_range (before ++ (mid ++ after)) from to ≡ mid
range_at before mid after from to e f =
    let n : length mid ≡ to - from = omega arith in
    ap (λ xs. take (to - from) xs) (drop_at before (mid ++ after) from e) ∙ take_at mid after (to - from) n

-- more than the first list of two
take_past : (mid after : List ℕ) (c n : ℕ) → length mid < n → (rest : List ℕ) × (take n (mid ++ c ∷ after) ≡ mid ++ c ∷ rest)
take_past [] after c zero h = absurd (omega arith)
take_past [] after c (suc n) h = (take n after, refl)
take_past (b ∷ mid) after c zero h = absurd (omega arith)
take_past (b ∷ mid) after c (suc n) h = let r = take_past mid after c n (omega arith) in (r.0, ap (λ xs. b ∷ xs) r.1)

-- a range that goes on behind what is between two lists
range_past : (before mid after : List ℕ) (c from to : ℕ) → length before ≡ from → length mid + from < to → (rest : List ℕ) × (slice_range (before ++ (mid ++ c ∷ after)) from to ≡ mid ++ c ∷ rest)
range_past before mid after c from to e f =
    let r = take_past mid after c (to - from) (omega arith) in
    (r.0, ap (λ xs. take (to - from) xs) (drop_at before (mid ++ c ∷ after) from e) ∙ r.1)

-- blanks are a gap
gap_of : (text before gap after : List ℕ) (at : ℕ) → text ≡ before ++ (gap ++ after) → length before ≡ at → AreSpaces gap → IsGap text false at (at + length gap)
gap_of text before [] after at is e spaces = ([], omega arith)
gap_of text before (b ∷ gap) after at is e spaces =
    let rest = gap_of text (before ++ b ∷ []) gap after (at + 1) (is ∙ sym (append_assoc before (b ∷ []) (gap ++ after))) (omega (arith, length-append before (b ∷ []))) spaces.1 in
    let blank : IsBlank text false at (at + 1) = record {
      ordered = omega arith;
      within = omega (arith, ap length is, length-append before (b ∷ (gap ++ after)));
      lexeme = space (b, ap (λ t. slice_range t at (at + 1)) is ∙ range_at before (b ∷ []) (gap ++ after) at (at + 1) e (omega arith), spaces.0);
    } in
    let to : at + 1 + length gap ≡ at + length (b ∷ gap) = omega arith in
    ((at + 1) ∷ rest.0, (blank, subst (λ n. AreBlanks text false (at + 1) rest.0 n) to rest.1))

-- what is before a piece, its token and its blanks
before_piece : (text before : List ℕ) (p : Piece) (rest : List ℕ) → text ≡ before ++ (piece_text p ++ rest) → text ≡ before ++ (p.bytes ++ (p.gap ++ rest))
before_piece text before p rest is = is ∙ ap (λ xs. before ++ xs) (append_assoc p.bytes p.gap rest)

behind_token : (text before : List ℕ) (p : Piece) (rest : List ℕ) → text ≡ before ++ (piece_text p ++ rest) → text ≡ (before ++ p.bytes) ++ (p.gap ++ rest)
behind_token text before p rest is = before_piece text before p rest is ∙ sym (append_assoc before p.bytes (p.gap ++ rest))

behind_piece : (text before : List ℕ) (p : Piece) (rest : List ℕ) → text ≡ before ++ (piece_text p ++ rest) → text ≡ (before ++ piece_text p) ++ rest
behind_piece text before p rest is = is ∙ sym (append_assoc before (piece_text p) rest)

length_behind : (before : List ℕ) (at : ℕ) (p : Piece) → length before ≡ at → length (before ++ piece_text p) ≡ behind at p
length_behind before at p e = omega (arith, length-append before (piece_text p), length-append p.bytes p.gap)

token_parses : (text before : List ℕ) (at : ℕ) (p : Piece) (rest : List ℕ) → text ≡ before ++ (piece_text p ++ rest) → length before ≡ at → token_text text (token_of at p) ≡ p.bytes
token_parses text before at p rest is e =
    ap (λ t. slice_range t at (at + length p.bytes)) (before_piece text before p rest is)
    ∙ range_at before p.bytes (p.gap ++ rest) at (at + length p.bytes) e (omega arith)

-- no longer token begins there
longest_of : (text before bytes after : List ℕ) (at : ℕ) → text ≡ before ++ (bytes ++ after) → length before ≡ at → Stops bytes after → (kind : TokenKind) (end : ℕ) → at + length bytes < end → end ≤ length text → IsLexeme kind (slice_range text at end) → ⊥
longest_of text before bytes [] at is e stops kind end past inside lexeme =
    omega (arith, ap length is, length-append before (bytes ++ []), length-append bytes [])
longest_of text before bytes (c ∷ after) at is e stops kind end past inside lexeme =
    let r = range_past before bytes after c at end e (omega arith) in
    stops kind r.0 (subst (λ s. IsLexeme kind s) (ap (λ t. slice_range t at end) is ∙ r.1) lexeme)

token_is : (text before : List ℕ) (at : ℕ) (p : Piece) (rest : List ℕ) → text ≡ before ++ (piece_text p ++ rest) → length before ≡ at → IsPiece p rest → IsToken text (token_of at p)
token_is text before at p rest is e piece = record {
  ordered = omega (arith, piece.some);
  within = omega (arith, ap length is, length-append before (piece_text p ++ rest), length-append (piece_text p) rest, length-append p.bytes p.gap);
  lexeme = subst (λ s. IsLexeme p.kind s) (sym (token_parses text before at p rest is e)) piece.lexeme;
  longest = longest_of text before p.bytes (p.gap ++ rest) at (before_piece text before p rest is) e piece.stops;
}

-- the pieces' tokens are those of the text
pub tokens_are : (text before : List ℕ) (from at : ℕ) (ps : List Piece) → text ≡ before ++ render ps → length before ≡ at → IsGap text false from at → ArePieces ps [] → AreTokens text false from (tokens_of at ps) (length text)
tokens_are text before from at [] is e gap pieces =
    let end : at ≡ length text = omega (arith, ap length is, length-append before []) in
    subst (λ n. IsGap text false from n) end gap
tokens_are text before from at (p ∷ ps) is e gap pieces =
    let piece : IsPiece p (render ps) = subst (λ xs. IsPiece p xs) (append-nil (render ps)) pieces.0 in
    let next = gap_of text (before ++ p.bytes) p.gap (render ps) (at + length p.bytes) (behind_token text before p (render ps) is) (omega (arith, length-append before p.bytes)) piece.spaces in (
      gap,
      token_is text before at p (render ps) is e piece,
      tokens_are text (before ++ piece_text p) (at + length p.bytes) (behind at p) ps (behind_piece text before p (render ps) is) (length_behind before at p e) next pieces.1,
    )

pub texts_are : (text before : List ℕ) (at : ℕ) (ps : List Piece) → text ≡ before ++ render ps → length before ≡ at → HasTexts text at ps
texts_are text before at [] is e = tt
texts_are text before at (p ∷ ps) is e = (
  token_parses text before at p (render ps) is e,
  texts_are text (before ++ piece_text p) (behind at p) ps (behind_piece text before p (render ps) is) (length_behind before at p e),
)

-- ---- pieces one list behind another

pub pieces_append : (ps qs : List Piece) (after : List ℕ) → ArePieces ps (render qs ++ after) → ArePieces qs after → ArePieces (ps ++ qs) after
pieces_append [] qs after first second = second
pieces_append (p ∷ ps) qs after first second =
    let e : render ps ++ (render qs ++ after) ≡ render (ps ++ qs) ++ after =
    sym (append_assoc (render ps) (render qs) after) ∙ ap (λ xs. xs ++ after) (sym (flat_map-append piece_text ps qs)) in
    (subst (λ xs. IsPiece p xs) e first.0, pieces_append ps qs after first.1 second)

pub render_append : (ps qs : List Piece) → render (ps ++ qs) ≡ render ps ++ render qs
render_append ps qs = flat_map-append piece_text ps qs
