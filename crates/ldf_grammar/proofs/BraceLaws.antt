-- What is passed over: the rest of a header line, and tokens in which braces are in pairs.
use Rattle.std.proofs.Common.{◌≡◌, ◌∙◌, sym, ap, refl, subst, ℕ, zero, suc, ◌+◌, inl, inr, List, [], ◌∷◌, ◌++◌, append_assoc, add-one}
use Rattle.std.specs.Prelude.{Some, All, codes}
use Rattle.std.proofs.lemmas.Option.{none-some}
use Rattle.std.proofs.lemmas.List.Elements.{All-nil, All-cons, All-head, All-tail}
use Rattle.sig_text.specs.declared.token.Token.{Token}
use Rattle.token_forms.specs.Pieces.{token_text}
use Rattle.token_forms.specs.Grammar.{◌▸◌, Quoted}
use Rattle.ldf_grammar.specs.Statements.{Part, Tokens, IsOpening, IsClosing, InPairs, no_tokens, other_token, in_braces, StaysInLine}
use Rattle.ldf_grammar.specs.StatementForms as marks
use Rattle.ldf_grammar.specs.StatementForms.{Mark, mark_of, line_by, after_line, section_by, after_section}
use Rattle.ldf_grammar.proofs.PartLaws.{same_some, equal_or_not}

-- what a word is, and its mark
data Marked (word : List ℕ) : Type 0 where
  is_opening : word ≡ codes "{" → mark_of word ≡ marks.Opening → Marked word
  is_closing : ¬ (word ≡ codes "{") → word ≡ codes "}" → mark_of word ≡ marks.Closing → Marked word
  is_end : ¬ (word ≡ codes "{") → ¬ (word ≡ codes "}") → word ≡ codes ";" → mark_of word ≡ marks.End → Marked word
  is_neither : ¬ (word ≡ codes "{") → ¬ (word ≡ codes "}") → ¬ (word ≡ codes ";") → mark_of word ≡ marks.Neither → Marked word

marked : (word : List ℕ) → Marked word
marked word = elim (equal_or_not word (codes "{")) [
  | inl is ↦ is_opening is.0 (rw is.1 refl)
  | inr no_opening ↦ elim (equal_or_not word (codes "}")) [
    | inl is ↦ is_closing no_opening.0 is.0 (rw (no_opening.1, is.1) refl)
    | inr no_closing ↦ elim (equal_or_not word (codes ";")) [
      | inl is ↦ is_end no_opening.0 no_closing.0 is.0 (rw (no_opening.1, no_closing.1, is.1) refl)
      | inr no_end ↦ is_neither no_opening.0 no_closing.0 no_end.0 (rw (no_opening.1, no_closing.1, no_end.1) refl)
    ]
  ]
]

-- ---- the rest of a header line

abbrev pub LineRest : List ℕ → Part
LineRest text = Tokens (All (StaysInLine text)) ▸ Quoted text (codes ";")

line_step : (text : List ℕ) (token : Token) (tail rest : List Token) → Marked (token_text text token)
    → ((left : List Token) → after_line text tail ≡ Some left → LineRest text tail left)
    → line_by (mark_of (token_text text token)) tail (after_line text tail) ≡ Some rest → LineRest text (token ∷ tail) rest
line_step text token tail rest (is_opening is mark) later e =
    absurd (none-some rest (sym (ap (λ (m : Mark). line_by m tail (after_line text tail)) mark) ∙ e))
line_step text token tail rest (is_closing unopened is mark) later e =
    absurd (none-some rest (sym (ap (λ (m : Mark). line_by m tail (after_line text tail)) mark) ∙ e))
line_step text token tail rest (is_end no_opening no_closing is mark) later e =
    let same = same_some tail rest (sym (ap (λ (m : Mark). line_by m tail (after_line text tail)) mark) ∙ e) in
    (token ∷ tail, ([], refl, All-nil (StaysInLine text)), (token, (ap (λ (ts : List Token). token ∷ ts) same, is)))
line_step text token tail rest (is_neither no_opening no_closing no_end mark) later e =
    let found = later rest (sym (ap (λ (m : Mark). line_by m tail (after_line text tail)) mark) ∙ e) in
    let prefix = found.1 in (
      found.0,
      (
        token ∷ prefix.0,
        ap (λ (ts : List Token). token ∷ ts) prefix.1,
        All-cons (StaysInLine text) token prefix.0 (no_end, no_opening, no_closing) prefix.2,
      ),
      found.2,
    )

pub line_found : (text : List ℕ) (tokens rest : List Token) → after_line text tokens ≡ Some rest → LineRest text tokens rest
unfolding after_line
line_found text [] rest e = absurd (none-some rest e)
line_found text (token ∷ tail) rest e = line_step text token tail rest (marked (token_text text token)) (line_found text tail) e

end_mark : (text : List ℕ) (token : Token) → token_text text token ≡ codes ";" → mark_of (token_text text token) ≡ marks.End
end_mark text token is = ap mark_of is

pass_mark : (word : List ℕ) → ¬ (word ≡ codes ";") → ¬ (word ≡ codes "{") → ¬ (word ≡ codes "}") → Marked word → mark_of word ≡ marks.Neither
pass_mark word no_end no_opening no_closing (is_opening is mark) = absurd (no_opening is)
pass_mark word no_end no_opening no_closing (is_closing unopened is mark) = absurd (no_closing is)
pass_mark word no_end no_opening no_closing (is_end unopened unclosed is mark) = absurd (no_end is)
pass_mark word no_end no_opening no_closing (is_neither unopened unclosed unended mark) = mark

line_ends : (text : List ℕ) (tokens rest : List Token) → Quoted text (codes ";") tokens rest → after_line text tokens ≡ Some rest
unfolding after_line
line_ends text tokens rest (token, (prefix, is)) =
    ap (after_line text) prefix ∙ ap (λ (m : Mark). line_by m rest (after_line text rest)) (end_mark text token is)

line_passes : (text : List ℕ) (prefix tokens rest : List Token) → All (StaysInLine text) prefix → after_line text tokens ≡ Some rest
    → after_line text (prefix ++ tokens) ≡ Some rest
unfolding after_line
line_passes text [] tokens rest stays e = e
line_passes text (token ∷ prefix) tokens rest stays e =
    let here : StaysInLine text token = All-head (StaysInLine text) token prefix stays in
    let mark = pass_mark (token_text text token) here.0 here.1 here.2 (marked (token_text text token)) in
    ap (λ (m : Mark). line_by m (prefix ++ tokens) (after_line text (prefix ++ tokens))) mark
    ∙ line_passes text prefix tokens rest (All-tail (StaysInLine text) token prefix stays) e

pub line_there : (text : List ℕ) (tokens rest : List Token) → LineRest text tokens rest → after_line text tokens ≡ Some rest
line_there text tokens rest (middle, (prefix, is, stays), ending) =
    ap (after_line text) is ∙ line_passes text prefix middle rest stays (line_ends text middle rest ending)

-- ---- the rest of a section

abbrev pub SectionRest : List ℕ → Part
SectionRest text = Tokens (InPairs text) ▸ Quoted text (codes "}")

-- so many sections more that end, one behind another
abbrev Rests : List ℕ → ℕ → Part
Rests text zero tokens rest = SectionRest text tokens rest
Rests text (suc depth) tokens rest = (SectionRest text ▸ Rests text depth) tokens rest

-- tokens before a section's rest that leave braces in pairs
abbrev Widens : List ℕ → List Token → Type 0
Widens text prefix = (inner : List Token) → InPairs text inner → InPairs text (prefix ++ inner)

widen_rest : (text : List ℕ) (prefix tokens rest : List Token) → Widens text prefix → SectionRest text tokens rest → SectionRest text (prefix ++ tokens) rest
widen_rest text prefix tokens rest widens (middle, (inner, is, pairs), closing) = (
  middle,
  (prefix ++ inner, ap (λ (ts : List Token). prefix ++ ts) is ∙ sym (append_assoc prefix inner middle), widens inner pairs),
  closing,
)

widen : (text : List ℕ) (depth : ℕ) (prefix tokens rest : List Token) → Widens text prefix → Rests text depth tokens rest → Rests text depth (prefix ++ tokens) rest
widen text zero prefix tokens rest widens there = widen_rest text prefix tokens rest widens there
widen text (suc depth) prefix tokens rest widens (middle, one, later) = (middle, widen_rest text prefix tokens middle widens one, later)

-- a pair of braces with what is between them
pair_widens : (text : List ℕ) (first last : Token) (inner : List Token) → IsOpening text first → InPairs text inner → IsClosing text last
    → Widens text (first ∷ inner ++ last ∷ [])
pair_widens text first last inner is_open pairs is_close more later =
    let P : List Token → Type 0 = λ ts. InPairs text (first ∷ ts) in
    subst P (sym (append_assoc inner (last ∷ []) more)) (in_braces first last is_open pairs is_close later)

opens : (text : List ℕ) (depth : ℕ) (first : Token) (tail rest : List Token) → IsOpening text first → Rests text (suc depth) tail rest
    → Rests text depth (first ∷ tail) rest
opens text depth first tail rest is_open (middle, (start, (inner, is, pairs), (last, (prefix, is_close))), later) =
    let P : List Token → Type 0 = λ ts. Rests text depth ts rest in
    let wide = widen text depth (first ∷ inner ++ last ∷ []) middle rest (pair_widens text first last inner is_open pairs is_close) later in
    let same : first ∷ (inner ++ last ∷ []) ++ middle ≡ first ∷ tail =
    ap (λ (ts : List Token). first ∷ ts) (append_assoc inner (last ∷ []) middle ∙ ap (λ (ts : List Token). inner ++ ts) (sym prefix) ∙ sym is) in
    subst P same wide

closes : (text : List ℕ) (token : Token) (tail : List Token) → IsClosing text token → SectionRest text (token ∷ tail) tail
closes text token tail is = (token ∷ tail, ([], refl, no_tokens), (token, (refl, is)))

section_closes : (text : List ℕ) (depth : ℕ) (token : Token) (tail rest : List Token) → IsClosing text token
    → ((depth : ℕ) → after_section text depth tail ≡ Some rest → Rests text depth tail rest)
    → section_by marks.Closing depth tail (λ deeper. after_section text deeper tail) ≡ Some rest → Rests text depth (token ∷ tail) rest
section_closes text zero token tail rest is later e =
    let P : List Token → Type 0 = λ ts. SectionRest text (token ∷ tail) ts in
    subst P (same_some tail rest e) (closes text token tail is)
section_closes text (suc depth) token tail rest is later e = (tail, closes text token tail is, later depth e)

section_step : (text : List ℕ) (depth : ℕ) (token : Token) (tail rest : List Token) → Marked (token_text text token)
    → ((depth : ℕ) → after_section text depth tail ≡ Some rest → Rests text depth tail rest)
    → section_by (mark_of (token_text text token)) depth tail (λ deeper. after_section text deeper tail) ≡ Some rest → Rests text depth (token ∷ tail) rest
section_step text depth token tail rest (is_opening is mark) later e =
    let P : ℕ → Type 0 = λ d. Rests text d tail rest in
    let there = later (depth + 1) (sym (ap (λ (m : Mark). section_by m depth tail (λ deeper. after_section text deeper tail)) mark) ∙ e) in
    opens text depth token tail rest is (subst P (add-one depth) there)
section_step text depth token tail rest (is_closing unopened is mark) later e =
    section_closes text depth token tail rest is later (sym (ap (λ (m : Mark). section_by m depth tail (λ deeper. after_section text deeper tail)) mark) ∙ e)
section_step text depth token tail rest (is_end no_opening no_closing is mark) later e =
    widen text depth (token ∷ []) tail rest (λ inner pairs. other_token token no_opening no_closing pairs)
    (later depth (sym (ap (λ (m : Mark). section_by m depth tail (λ deeper. after_section text deeper tail)) mark) ∙ e))
section_step text depth token tail rest (is_neither no_opening no_closing no_end mark) later e =
    widen text depth (token ∷ []) tail rest (λ inner pairs. other_token token no_opening no_closing pairs)
    (later depth (sym (ap (λ (m : Mark). section_by m depth tail (λ deeper. after_section text deeper tail)) mark) ∙ e))

rests_found : (text : List ℕ) (tokens rest : List Token) (depth : ℕ) → after_section text depth tokens ≡ Some rest → Rests text depth tokens rest
unfolding after_section
rests_found text [] rest depth e = absurd (none-some rest e)
rests_found text (token ∷ tail) rest depth e = section_step text depth token tail rest (marked (token_text text token)) (rests_found text tail rest) e

pub section_found : (text : List ℕ) (tokens rest : List Token) → after_section text 0 tokens ≡ Some rest → SectionRest text tokens rest
section_found text tokens rest e = rests_found text tokens rest 0 e

opening_passes : (text : List ℕ) (depth : ℕ) (token : Token) (tail : List Token) → IsOpening text token
    → after_section text depth (token ∷ tail) ≡ after_section text (suc depth) tail
unfolding after_section
opening_passes text depth token tail is =
    ap (λ (m : Mark). section_by m depth tail (λ deeper. after_section text deeper tail)) (ap mark_of is)
    ∙ ap (λ (d : ℕ). after_section text d tail) (add-one depth)

closing_passes : (text : List ℕ) (depth : ℕ) (token : Token) (tail : List Token) → IsClosing text token
    → after_section text (suc depth) (token ∷ tail) ≡ after_section text depth tail
unfolding after_section
closing_passes text depth token tail is =
    ap (λ (m : Mark). section_by m (suc depth) tail (λ deeper. after_section text deeper tail)) (ap mark_of is)

closing_ends : (text : List ℕ) (token : Token) (tail : List Token) → IsClosing text token → after_section text 0 (token ∷ tail) ≡ Some tail
unfolding after_section
closing_ends text token tail is = ap (λ (m : Mark). section_by m 0 tail (λ deeper. after_section text deeper tail)) (ap mark_of is)

other_by : (text : List ℕ) (depth : ℕ) (token : Token) (tail : List Token) → ¬ IsOpening text token → ¬ IsClosing text token → Marked (token_text text token)
    → section_by (mark_of (token_text text token)) depth tail (λ deeper. after_section text deeper tail) ≡ after_section text depth tail
other_by text depth token tail no_opening no_closing (is_opening is mark) = absurd (no_opening is)
other_by text depth token tail no_opening no_closing (is_closing unopened is mark) = absurd (no_closing is)
other_by text depth token tail no_opening no_closing (is_end unopened unclosed is mark) =
    ap (λ (m : Mark). section_by m depth tail (λ deeper. after_section text deeper tail)) mark
other_by text depth token tail no_opening no_closing (is_neither unopened unclosed unended mark) =
    ap (λ (m : Mark). section_by m depth tail (λ deeper. after_section text deeper tail)) mark

other_passes : (text : List ℕ) (depth : ℕ) (token : Token) (tail : List Token) → ¬ IsOpening text token → ¬ IsClosing text token
    → after_section text depth (token ∷ tail) ≡ after_section text depth tail
unfolding after_section
other_passes text depth token tail no_opening no_closing = other_by text depth token tail no_opening no_closing (marked (token_text text token))

-- pairs are passed at each depth
pairs_pass : (text : List ℕ) {inner : List Token} → InPairs text inner → (depth : ℕ) (tail : List Token)
    → after_section text depth (inner ++ tail) ≡ after_section text depth tail
pairs_pass text no_tokens depth tail = refl
pairs_pass text (other_token {rest = rest} token no_opening no_closing more) depth tail =
    other_passes text depth token (rest ++ tail) no_opening no_closing ∙ pairs_pass text more depth tail
pairs_pass text (in_braces {inner = inner} {rest = rest} first last is_open within is_close more) depth tail =
    opening_passes text depth first ((inner ++ last ∷ rest) ++ tail) is_open
    ∙ ap (after_section text (suc depth)) (append_assoc inner (last ∷ rest) tail)
    ∙ pairs_pass text within (suc depth) (last ∷ rest ++ tail)
    ∙ closing_passes text depth last (rest ++ tail) is_close
    ∙ pairs_pass text more depth tail

pub section_there : (text : List ℕ) (tokens rest : List Token) → SectionRest text tokens rest → after_section text 0 tokens ≡ Some rest
section_there text tokens rest (middle, (inner, is, pairs), (last, (prefix, is_close))) =
    ap (after_section text 0) is ∙ pairs_pass text pairs 0 middle ∙ ap (after_section text 0) prefix ∙ closing_ends text last rest is_close
