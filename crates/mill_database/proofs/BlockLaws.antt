-- The pieces of the generated text, whose tokens are those of the text.
use Rattle.std.proofs.Common.{◌≡◌, ℕ, zero, suc, ◌+◌, ◌/◌, ◌%◌, ◌^◌, ◌<◌, ◌≤◌, Bool, true, false, ◌&&◌, List, [], ◌∷◌, ◌++◌, length, sym, refl, ap, ◌∙◌, subst, arith, append_assoc}
use Rattle.std.specs.Prelude.{codes, decimal}
use Rattle.std.specs.List.{flat_map, range_with_len, list_all}
use Rattle.std.specs.Char.{is_ascii_digit}
use Rattle.std.proofs.lemmas.Bool.{and_from, le-leb}
use Rattle.std.proofs.lemmas.List.{append-nil}
use Rattle.std.proofs.lemmas.List.Concat.{flat_map-append}
use Rattle.std.proofs.lemmas.List.Folds.{list_all-append}
use Rattle.std.proofs.lemmas.Fmt.{decimal_by_steps, decimal_nonempty}
use Rattle.bench_model.specs.declared.database.Order.{Order}
use Rattle.bench_model.specs.declared.database.Order.TheVariants.{Intel, Motorola}
use Rattle.sig_text.specs.Bytes.{is_word_byte}
use Rattle.sig_text.specs.Tokens.{IsTokens}
use Rattle.sig_text.specs.declared.token.TokenKind.TheVariants.{Word, Number, Str, Sign}
use Rattle.mill_database.specs.GeneratedText.{message_count, id_of, message_name, message_line, signal_lines, message_text, generated_text}
use Rattle.mill_database.proofs.PieceLaws.{Piece, piece_text, render, tokens_of, AreSpaces, IsPiece, ArePieces, HasTexts, tokens_are, texts_are, pieces_append, render_append}
use Rattle.mill_database.proofs.LexemeLaws.{goes_on, is_plain, test_pieces, piece_passes, pieces_pass, number_piece, name_piece}

-- ---- pieces

abbrev pub word : List ℕ → List ℕ → Piece
word bytes gap = record { kind = Word; bytes = bytes; gap = gap }

abbrev pub number : List ℕ → List ℕ → Piece
number bytes gap = record { kind = Number; bytes = bytes; gap = gap }

abbrev pub mark : List ℕ → List ℕ → Piece
mark bytes gap = record { kind = Sign; bytes = bytes; gap = gap }

abbrev pub string : List ℕ → List ℕ → Piece
string bytes gap = record { kind = Str; bytes = bytes; gap = gap }

abbrev pub blank : List ℕ
blank = 32 ∷ []

-- the end of a line, and the blank before the next signal
abbrev pub next_line : List ℕ
next_line = 10 ∷ 32 ∷ []

abbrev pub last_line : List ℕ
last_line = 10 ∷ []

-- `BO_ 256 M0: 8 Mill`
abbrev pub heading_pieces : ℕ → List Piece → List Piece
heading_pieces j more =
    word (codes "BO_") blank ∷ number (decimal (id_of j)) blank ∷ word (message_name j) [] ∷ mark (codes ":") blank
    ∷ number (codes "8") blank ∷ word (codes "Mill") next_line ∷ more

-- `0|16@1+`
abbrev pub place_pieces : List ℕ → List ℕ → List ℕ → List Piece → List Piece
place_pieces start order sign more =
    number start [] ∷ mark (codes "|") [] ∷ number (codes "16") [] ∷ mark (codes "@") [] ∷ number order [] ∷ mark sign blank ∷ more

-- `(0.5,0)`
abbrev pub offset_pieces : Bool → List ℕ → List Piece → List Piece
offset_pieces false offset more = number offset [] ∷ more
offset_pieces true offset more = mark (codes "-") [] ∷ number offset [] ∷ more

abbrev pub scaling_pieces : List ℕ → Bool → List ℕ → List Piece → List Piece
scaling_pieces factor minus offset more =
    mark (codes "(") [] ∷ number factor [] ∷ mark (codes ",") [] ∷ offset_pieces minus offset (mark (codes ")") blank ∷ more)

-- `[0|0]`
abbrev pub limit_pieces : List Piece → List Piece
limit_pieces more =
    mark (codes "[") [] ∷ number (codes "0") [] ∷ mark (codes "|") [] ∷ number (codes "0") [] ∷ mark (codes "]") blank ∷ more

abbrev pub name_pieces : List ℕ → List Piece → List Piece
name_pieces name more = word (codes "SG_") blank ∷ word name blank ∷ mark (codes ":") blank ∷ more

abbrev pub end_pieces : List ℕ → List Piece → List Piece
end_pieces gap more = string (34 ∷ 34 ∷ []) blank ∷ word (codes "Mill") gap ∷ more

abbrev pub s0_pieces : List Piece → List Piece
s0_pieces more = name_pieces (codes "S0") (place_pieces (codes "0") (codes "1") (codes "+")
    (scaling_pieces (codes "0.5") false (codes "0") (limit_pieces (end_pieces next_line more))))

abbrev pub s1_pieces : List Piece → List Piece
s1_pieces more = name_pieces (codes "S1") (place_pieces (codes "16") (codes "1") (codes "-")
    (scaling_pieces (codes "1") true (codes "40") (limit_pieces (end_pieces next_line more))))

abbrev pub s2_pieces : List Piece → List Piece
s2_pieces more = name_pieces (codes "S2") (place_pieces (codes "39") (codes "0") (codes "+")
    (scaling_pieces (codes "0.25") false (codes "0") (limit_pieces (end_pieces next_line more))))

abbrev pub s3_pieces : List Piece → List Piece
s3_pieces more = name_pieces (codes "S3") (place_pieces (codes "55") (codes "0") (codes "-")
    (scaling_pieces (codes "1") false (codes "0") (limit_pieces (end_pieces last_line more))))

abbrev pub signals_pieces : List Piece → List Piece
signals_pieces more = s0_pieces (s1_pieces (s2_pieces (s3_pieces more)))

abbrev pub message_pieces : ℕ → List Piece → List Piece
message_pieces j more = heading_pieces j (signals_pieces more)

unfoldable pub file_pieces : ℕ → ℕ → List Piece
file_pieces a zero = []
file_pieces a (suc n) = message_pieces a (file_pieces (a + 1) n)

-- ---- they are pieces

digit_byte : (n : ℕ) → n < 10 → is_ascii_digit (48 + n) ≡ true
digit_byte n h = and_from _ _ (le-leb 48 (48 + n) (omega arith)) (le-leb (48 + n) 57 (omega arith))

word_digit : (n : ℕ) → n < 10 → is_word_byte (48 + n) ≡ true
word_digit n h = rw (digit_byte n h) refl

pub decimal_digits : (n : ℕ) → n < 2 ^ 64 → list_all is_ascii_digit (decimal n) ≡ true
decimal_digits n h = decimal_by_steps (λ n ds. list_all is_ascii_digit ds ≡ true)
    (λ n small. and_from _ _ (digit_byte n small) refl)
    (λ n ds large before. list_all-append is_ascii_digit ds ((48 + n % 10) ∷ []) ∙ and_from _ _ before (and_from _ _ (digit_byte (n % 10) (omega arith)) refl)) n h

decimal_word : (n : ℕ) → n < 2 ^ 64 → list_all is_word_byte (decimal n) ≡ true
decimal_word n h = decimal_by_steps (λ n ds. list_all is_word_byte ds ≡ true)
    (λ n small. and_from _ _ (word_digit n small) refl)
    (λ n ds large before. list_all-append is_word_byte ds ((48 + n % 10) ∷ []) ∙ and_from _ _ before (and_from _ _ (word_digit (n % 10) (omega arith)) refl)) n h

signals_are : (more : List Piece) → ArePieces more [] → ArePieces (signals_pieces more) []
unfolding goes_on is_plain
signals_are more rest = pieces_append (signals_pieces []) more [] (pieces_pass (signals_pieces []) (render more ++ []) refl) rest

heading_is : (j : ℕ) (more : List Piece) → j < 1000 → ArePieces more [] → ArePieces (heading_pieces j more) []
unfolding goes_on is_plain
heading_is j more h rest = (
  piece_passes (word (codes "BO_") blank) [] _ refl,
  (
    number_piece (decimal (id_of j)) _ (decimal_nonempty (id_of j) (omega arith)) (decimal_digits (id_of j) (omega arith)),
    (
      name_piece (decimal j) _ (decimal_word j (omega arith)),
      (
        piece_passes (mark (codes ":") blank) [] _ refl,
        (
          piece_passes (number (codes "8") blank) [] _ refl,
          (piece_passes (word (codes "Mill") next_line) [] _ refl, rest),
        ),
      ),
    ),
  ),
)

file_is : (a n : ℕ) → a + n < 1000 → ArePieces (file_pieces a n) []
unfolding file_pieces
file_is a zero h = tt
file_is a (suc n) h = heading_is a (signals_pieces (file_pieces (a + 1) n)) (omega arith) (signals_are (file_pieces (a + 1) n) (file_is (a + 1) n (omega arith)))

-- ---- and they are those of the text

text_side : (d e colon signals rest : List ℕ) → ((d ++ 32 ∷ 77 ∷ (e ++ colon)) ++ signals) ++ rest ≡ d ++ 32 ∷ 77 ∷ (e ++ (colon ++ (signals ++ rest)))
text_side d e colon signals rest = simp append_assoc

piece_side : (d e rest : List ℕ) → (d ++ 32 ∷ []) ++ (((77 ∷ e) ++ []) ++ rest) ≡ d ++ 32 ∷ 77 ∷ (e ++ rest)
piece_side d e rest = simp (append_assoc, append-nil)

message_is : (j : ℕ) (more : List Piece) → message_text j ++ render more ≡ render (message_pieces j more)
unfolding message_text signal_lines
message_is j more =
    let colon = codes ": 8 Mill\n" in
    ap (λ xs. 66 ∷ 79 ∷ 95 ∷ 32 ∷ xs) (text_side (decimal (id_of j)) (decimal j) colon signal_lines (render more)
    ∙ sym (piece_side (decimal (id_of j)) (decimal j) (colon ++ (signal_lines ++ render more))))

text_is : (a n : ℕ) → flat_map message_text (range_with_len a n) ≡ render (file_pieces a n)
unfolding file_pieces
text_is a zero = refl
text_is a (suc n) = ap (λ xs. message_text a ++ xs) (text_is (a + 1) n) ∙ message_is a (file_pieces (a + 1) n)

whole_text : generated_text ≡ render (file_pieces 0 message_count)
unfolding generated_text
whole_text = text_is 0 message_count

pub generated_tokens : IsTokens generated_text false (tokens_of 0 (file_pieces 0 message_count))
generated_tokens = tokens_are generated_text [] 0 0 (file_pieces 0 message_count) whole_text refl ([], refl) (file_is 0 message_count (omega arith))

pub generated_texts : HasTexts generated_text 0 (file_pieces 0 message_count)
generated_texts = texts_are generated_text [] 0 (file_pieces 0 message_count) whole_text refl
