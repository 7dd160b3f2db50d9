-- How readers join what they find, as functions on lists of tokens: one form behind another, a choice, and parts up
-- to a closing sign.
use Rattle.std.specs.Prelude.{ℕ, zero, suc, Bool, List, [], ◌∷◌, ◌++◌, length, Option, Some, None, nat_lt, if◌then◌else◌}
use Rattle.sig_text.specs.declared.token.Token.{Token}
use Rattle.token_forms.specs.Pieces.{literal_at}
use Rattle.token_forms.specs.Runs.{Form}

-- a form, and behind it one that may depend on what the first says
abbrev pub go_on : {A B : Type 0} → (A → Form B) → Option (A × List Token) → Option (B × List Token)
go_on q None = None
go_on q (Some found) = q found.0 found.1

unfoldable pub followed_by : {A B : Type 0} → Form A → (A → Form B) → Form B
followed_by p q tokens = go_on q (p tokens)

infixl 10 ◌>>=◌
abbrev pub ◌>>=◌ : {A B : Type 0} → Form A → (A → Form B) → Form B
p >>= q = followed_by p q

-- no token, which says this
unfoldable pub say : {A : Type 0} → A → Form A
say x tokens = Some (x, tokens)

-- no token, where the test holds
unfoldable pub demand : Bool → Form (Unit {0})
demand holds tokens = if holds then Some (tt, tokens) else None

-- the token with these bytes, as a grammar quotes it
abbrev pub passed : Option (List Token) → Option (Unit {0} × List Token)
passed None = None
passed (Some rest) = Some (tt, rest)

unfoldable pub expect : List ℕ → List ℕ → Form (Unit {0})
expect text literal tokens = passed (literal_at text literal tokens)

-- the second form behind the quoted token where it is there, else the third one
abbrev pub chosen : {A : Type 0} → Option (List Token) → Form A → Form A → Form A
chosen None behind other tokens = other tokens
chosen (Some rest) behind other tokens = behind rest

unfoldable pub either : {A : Type 0} → List ℕ → List ℕ → Form A → Form A → Form A
either text literal behind other tokens = chosen (literal_at text literal tokens) behind other tokens

-- one more before those that were found
abbrev pub put_before : {A : Type 0} → A → Option (List A × List Token) → Option (List A × List Token)
put_before x None = None
put_before x (Some found) = Some (x ∷ found.0, found.1)

abbrev pub put_all_before : {A : Type 0} → List A → Option (List A × List Token) → Option (List A × List Token)
put_all_before xs None = None
put_all_before xs (Some found) = Some (xs ++ found.0, found.1)

-- a part, where the closing sign is not next, and the later ones behind it; a part takes a token at least
abbrev pub until_part : {A : Type 0} → Form (List A) → List Token → Option (A × List Token) → Option (List A × List Token)
until_part later tokens None = None
until_part later tokens (Some found) =
    if nat_lt (length found.1) (length tokens) then put_before found.0 (later found.1) else None

abbrev pub until_by : {A : Type 0} → Form (List A) → Form A → List Token → Option (List Token) → Option (List A × List Token)
until_by later part tokens (Some rest) = Some ([], rest)
until_by later part tokens None = until_part later tokens (part tokens)

unfoldable pub until_within : {A : Type 0} → ℕ → List ℕ → List ℕ → Form A → Form (List A)
until_within zero text close part tokens = None
until_within (suc n) text close part tokens = until_by (until_within n text close part) part tokens (literal_at text close tokens)

-- all parts up to the closing sign
unfoldable pub until : {A : Type 0} → List ℕ → List ℕ → Form A → Form (List A)
until text close part tokens = until_within (length tokens) text close part tokens

-- a form, where it takes a token at least
abbrev pub taken : {A : Type 0} → List Token → Option (A × List Token) → Option (A × List Token)
taken tokens None = None
taken tokens (Some found) = if nat_lt (length found.1) (length tokens) then Some found else None

unfoldable pub taking : {A : Type 0} → Form A → Form A
taking p tokens = taken tokens (p tokens)
