-- The text of one message more.
use Rattle.std.proofs.Common.{◌≡◌, ◌∙◌, ℕ, zero, suc, ◌+◌, List, [], ◌∷◌, ◌++◌, refl, ap, sym, arith, add-one, append_assoc}
use Rattle.std.specs.List.{flat_map, range_with_len}
use Rattle.std.proofs.lemmas.List.{append-nil}
use Rattle.mill_database.specs.GeneratedText.{message_text}

one_more : (a n : ℕ) → flat_map message_text (range_with_len a (suc n)) ≡ flat_map message_text (range_with_len a n) ++ message_text (a + n)
one_more a zero = append-nil (message_text a) ∙ ap message_text (omega arith)
one_more a (suc n) =
    let place : a + 1 + n ≡ a + suc n = omega arith in
    ap (λ xs. message_text a ++ xs) (one_more (a + 1) n ∙ ap (λ k. flat_map message_text (range_with_len (a + 1) n) ++ message_text k) place)
    ∙ sym (append_assoc (message_text a) (flat_map message_text (range_with_len (a + 1) n)) (message_text (a + suc n)))

pub one_more_message : (n : ℕ) → flat_map message_text (range_with_len 0 (n + 1)) ≡ flat_map message_text (range_with_len 0 n) ++ message_text n
one_more_message n =
    let place : 0 + n ≡ n = omega arith in
    ap (λ k. flat_map message_text (range_with_len 0 k)) (add-one n) ∙ one_more 0 n ∙ ap (λ k. flat_map message_text (range_with_len 0 n) ++ message_text k) place
