-- The lines of a bench file and of commands: each ends before a line feed, and a carriage return before that is dropped.
-- The last line may lack its line feed; a carriage return at its end then stays.
use Rattle.std.specs.Prelude.{ℕ, ◌==◌, ◌&&◌, Bool, false, List, [], ◌∷◌, if◌then◌else◌}
use Rattle.byte_forms.specs.Bytes.{line_feed, carriage_return}
use Rattle.byte_forms.specs.Lines.{all_lines}
use Rattle.text_words.specs.Words.{is_empty}

-- a text that begins with a line feed
abbrev pub begins_with_feed : List ℕ → Bool
begins_with_feed [] = false
begins_with_feed (b ∷ bs) = b == line_feed

-- the text without the carriage returns that are right before a line feed
unfoldable pub without_returns : List ℕ → List ℕ
without_returns [] = []
without_returns (b ∷ bs) = if b == carriage_return && begins_with_feed bs then without_returns bs else b ∷ without_returns bs

abbrev pub text_lines : List ℕ → List (List ℕ)
text_lines bytes = all_lines (without_returns bytes)

-- a line without the carriage return at its end, as wants are read: there it is dropped of the last line, too
unfoldable pub without_return : List ℕ → List ℕ
without_return [] = []
without_return (b ∷ bs) = if b == carriage_return && is_empty bs then [] else b ∷ without_return bs
