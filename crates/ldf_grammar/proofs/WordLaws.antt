-- The names of frames and of their signals are words of the text: each form takes tokens of the text and leaves such.
use Rattle.std.proofs.Common.{◌≡◌, refl, ℕ, zero, suc, Bool, true, false, List, [], ◌∷◌, length}
use Rattle.std.specs.Prelude.{Option, Some, None, if◌then◌else◌, nat_lt}
use Rattle.std.specs.Str.{bytes_eq}
use Rattle.byte_forms.specs.Pieces as pieces
use Rattle.sig_text.specs.Tokens.{IsToken}
use Rattle.sig_text.specs.declared.token.Token.{Token}
use Rattle.sig_text.specs.declared.token.TokenKind.{TokenKind}
use Rattle.sig_text.specs.declared.token.TokenKind.TheVariants.{Word, Number, Str, Sign}
use Rattle.token_forms.specs.declared.numbers.SignedNumber.{SignedNumber}
use Rattle.token_forms.specs.Pieces.{token_text, literal_at, word_at, word_by, number_at, number_by, string_at, string_by}
use Rattle.token_forms.specs.Numbers.{number_up_to_at, number_in, signed_at, after_sign, is_sign_token, is_hexadecimal}
use Rattle.token_forms.specs.Runs.{Form}
use Rattle.ldf_grammar.specs.Forms.{go_on, followed_by, say, demand, expect, passed, either, chosen, put_before, until_part, until_by, until_within, until}

-- all are tokens of the text
abbrev pub AreOfText : List ℕ → List Token → Type 0
AreOfText text [] = Unit {0}
AreOfText text (t ∷ ts) = IsToken text t × AreOfText text ts

-- what is found keeps this, and the tokens left are of the text
abbrev pub IsKnown : {A : Type 0} → List ℕ → (A → Type 0) → Option (A × List Token) → Type 0
IsKnown text P None = Unit {0}
IsKnown text P (Some found) = P found.0 × AreOfText text found.1

abbrev pub Tells : {A : Type 0} → List ℕ → (A → Type 0) → Form A → Type 0
Tells text P form = (tokens : List Token) → AreOfText text tokens → IsKnown text P (form tokens)

go_known : {A B : Type 0} (text : List ℕ) (P : A → Type 0) (Q : B → Type 0) (q : A → Form B) (o : Option (A × List Token)) → IsKnown text P o → ((x : A) → P x → Tells text Q (q x)) → IsKnown text Q (go_on q o)
go_known text P Q q None known each = tt
go_known text P Q q (Some found) known each = each found.0 known.0 found.1 known.1

pub tells_followed : {A B : Type 0} (text : List ℕ) (P : A → Type 0) (Q : B → Type 0) (p : Form A) (q : A → Form B) → Tells text P p → ((x : A) → P x → Tells text Q (q x)) → Tells text Q (followed_by p q)
unfolding followed_by
tells_followed text P Q p q first each tokens of = go_known text P Q q (p tokens) (first tokens of) each

pub tells_say : {A : Type 0} (text : List ℕ) (P : A → Type 0) (x : A) → P x → Tells text P (say x)
unfolding say
tells_say text P x h tokens of = (h, of)

abbrev pub Any : {A : Type 0} → A → Type 0
Any x = Unit {0}

-- a word of the text
pub record IsWordToken (text : List ℕ) (token : Token) : Type 0 where
  pub there : IsToken text token
  pub kind : token.kind ≡ Word

word_known : (text : List ℕ) (token : Token) (kind : TokenKind) (rest : List Token) → token.kind ≡ kind → IsToken text token → AreOfText text rest → IsKnown text (IsWordToken text) (word_by token kind rest)
word_known text token Word rest e there of = (record { there = there; kind = e }, of)
word_known text token Number rest e there of = tt
word_known text token Str rest e there of = tt
word_known text token Sign rest e there of = tt

pub tells_word : (text : List ℕ) → Tells text (IsWordToken text) word_at
unfolding word_at
tells_word text [] of = tt
tells_word text (token ∷ rest) of = word_known text token token.kind rest refl of.0 of.1

string_known : (text : List ℕ) (token : Token) (kind : TokenKind) (rest : List Token) → AreOfText text rest → IsKnown text Any (string_by token kind rest)
string_known text token Word rest of = tt
string_known text token Number rest of = tt
string_known text token Str rest of = (tt, of)
string_known text token Sign rest of = tt

pub tells_string : (text : List ℕ) → Tells text Any string_at
unfolding string_at
tells_string text [] of = tt
tells_string text (token ∷ rest) of = string_known text token token.kind rest of.1

-- the tokens behind a token, where something is found there
abbrev pub LeavesOf : List ℕ → Option (List Token) → Type 0
LeavesOf text None = Unit {0}
LeavesOf text (Some rest) = AreOfText text rest

pub literal_leaves : (text literal : List ℕ) (tokens : List Token) → AreOfText text tokens → LeavesOf text (literal_at text literal tokens)
unfolding literal_at
literal_leaves text literal [] of = tt
literal_leaves text literal (token ∷ rest) of =
    elim (bytes_eq (token_text text token) literal) as (λ (b : Bool). LeavesOf text (if b then Some rest else None)) [ true ↦ of.1 | false ↦ tt ]

pub passed_known : (text : List ℕ) (o : Option (List Token)) → LeavesOf text o → IsKnown text Any (passed o)
passed_known text None leaves = tt
passed_known text (Some rest) leaves = (tt, leaves)

pub tells_expect : (text literal : List ℕ) → Tells text Any (expect text literal)
unfolding expect
tells_expect text literal tokens of = passed_known text (literal_at text literal tokens) (literal_leaves text literal tokens of)

pub tells_demand : (text : List ℕ) (b : Bool) → Tells text Any (demand b)
unfolding demand
tells_demand text true tokens of = (tt, of)
tells_demand text false tokens of = tt

chosen_known : {A : Type 0} (text : List ℕ) (P : A → Type 0) (o : Option (List Token)) (behind other : Form A) (tokens : List Token) → LeavesOf text o → AreOfText text tokens
    → Tells text P behind → Tells text P other → IsKnown text P (chosen o behind other tokens)
chosen_known text P None behind other tokens leaves of b c = c tokens of
chosen_known text P (Some rest) behind other tokens leaves of b c = b rest leaves

pub tells_either : {A : Type 0} (text literal : List ℕ) (P : A → Type 0) (behind other : Form A) → Tells text P behind → Tells text P other → Tells text P (either text literal behind other)
unfolding either
tells_either text literal P behind other b c tokens of =
    chosen_known text P (literal_at text literal tokens) behind other tokens (literal_leaves text literal tokens of) of b c

-- parts up to a sign, each of which keeps this
abbrev pub AllKeep : {A : Type 0} → (A → Type 0) → List A → Type 0
AllKeep P [] = Unit {0}
AllKeep P (x ∷ xs) = P x × AllKeep P xs

put_known : {A : Type 0} (text : List ℕ) (P : A → Type 0) (x : A) (o : Option (List A × List Token)) → P x → IsKnown text (AllKeep P) o → IsKnown text (AllKeep P) (put_before x o)
put_known text P x None h known = tt
put_known text P x (Some found) h known = ((h, known.0), known.1)

part_known : {A : Type 0} (text : List ℕ) (P : A → Type 0) (later : Form (List A)) (tokens : List Token) (o : Option (A × List Token)) → IsKnown text P o → Tells text (AllKeep P) later
    → IsKnown text (AllKeep P) (until_part later tokens o)
part_known text P later tokens None known more = tt
part_known text P later tokens (Some found) known more =
    elim (nat_lt (length found.1) (length tokens)) as (λ (b : Bool). IsKnown text (AllKeep P) (if b then put_before found.0 (later found.1) else None)) [
      | true ↦ put_known text P found.0 (later found.1) known.0 (more found.1 known.1)
      | false ↦ tt
    ]

by_known : {A : Type 0} (text : List ℕ) (P : A → Type 0) (later : Form (List A)) (part : Form A) (tokens : List Token) (o : Option (List Token)) → LeavesOf text o → AreOfText text tokens
    → Tells text P part → Tells text (AllKeep P) later → IsKnown text (AllKeep P) (until_by later part tokens o)
by_known text P later part tokens (Some rest) leaves of each more = (tt, leaves)
by_known text P later part tokens None leaves of each more = part_known text P later tokens (part tokens) (each tokens of) more

within_known : {A : Type 0} (text close : List ℕ) (P : A → Type 0) (part : Form A) (n : ℕ) → Tells text P part → Tells text (AllKeep P) (until_within n text close part)
unfolding until_within
within_known text close P part zero each tokens of = tt
within_known text close P part (suc n) each tokens of =
    by_known text P (until_within n text close part) part tokens (literal_at text close tokens) (literal_leaves text close tokens of) of each (within_known text close P part n each)

pub tells_until : {A : Type 0} (text close : List ℕ) (P : A → Type 0) (part : Form A) → Tells text P part → Tells text (AllKeep P) (until text close part)
unfolding until
tells_until text close P part each tokens of = within_known text close P part (length tokens) each tokens of

-- tokens are left by what gives back numbers, too
number_known : (text : List ℕ) (token : Token) (kind : TokenKind) (rest : List Token) → AreOfText text rest → IsKnown text Any (number_by token kind rest)
number_known text token Word rest of = tt
number_known text token Number rest of = (tt, of)
number_known text token Str rest of = tt
number_known text token Sign rest of = tt

tells_number : (text : List ℕ) → Tells text Any number_at
unfolding number_at
tells_number text [] of = tt
tells_number text (token ∷ rest) of = number_known text token token.kind rest of.1

up_to_known : (text : List ℕ) (limit : ℕ) (o : Option (Token × List Token)) → IsKnown text Any o
    → IsKnown text Any (pieces.◌>>=◌ o (λ found. pieces.◌>>=◌ (number_in limit (token_text text found.0)) (λ number. Some (number, found.1))))
up_to_known text limit None known = tt
up_to_known text limit (Some found) known =
    elim (number_in limit (token_text text found.0)) as (λ n. IsKnown text Any (pieces.◌>>=◌ n (λ number. Some (number, found.1)))) [ None ↦ tt | Some n ↦ (tt, known.1) ]

pub tells_up_to : (text : List ℕ) (limit : ℕ) → Tells text Any (number_up_to_at text limit)
unfolding number_up_to_at
tells_up_to text limit tokens of = up_to_known text limit (number_at tokens) (tells_number text tokens of)

sign_known : (text : List ℕ) (sign : Option Token) (o : Option (Token × List Token)) → IsKnown text Any o
    → IsKnown text Any (pieces.◌>>=◌ o (λ found. if is_hexadecimal (token_text text found.0) then None else Some (let n : SignedNumber = record { sign = sign; number = found.0 } in n, found.1)))
sign_known text sign None known = tt
sign_known text sign (Some found) known =
    elim (is_hexadecimal (token_text text found.0)) as (λ (b : Bool). IsKnown text Any (if b then None else Some (let n : SignedNumber = record { sign = sign; number = found.0 } in n, found.1))) [ true ↦ tt | false ↦ (tt, known.1) ]

tells_after_sign : (text : List ℕ) (sign : Option Token) → Tells text Any (after_sign text sign)
tells_after_sign text sign tokens of = sign_known text sign (number_at tokens) (tells_number text tokens of)

pub tells_signed : (text : List ℕ) → Tells text Any (signed_at text)
unfolding signed_at
tells_signed text [] of = tt
tells_signed text (token ∷ rest) of =
    elim (is_sign_token text token) as (λ (b : Bool). IsKnown text Any (if b then after_sign text (Some token) rest else after_sign text None (token ∷ rest))) [
      | true ↦ tells_after_sign text (Some token) rest of.1
      | false ↦ tells_after_sign text None (token ∷ rest) of
    ]
