-- What is known of a list of words that is learned word by word, and which lists it may be.
use Rattle.std.specs.Prelude.{◌≡◌, ◌≢◌, ℕ, List, length, Option, Some, slice_get}
use Rattle.bench_model.specs.declared.database.Bench.{Bench}
use Rattle.bench_model.specs.ValidBench.{IsValidBench}
use Rattle.image_words.specs.Image.{Encodes}

-- a length, a number of buses, and the words known so far, by their places
pub record Knowledge : Type 0 where
  pub size : ℕ
  pub buses : ℕ
  pub known : ℕ → Option ℕ

-- the word at a place is known from now on, and nothing else changed
pub record Learns (old new : Knowledge) (at word : ℕ) : Type 0 where
  pub size : new.size ≡ old.size
  pub buses : new.buses ≡ old.buses
  pub given : new.known at ≡ Some word
  pub kept : (i w : ℕ) → old.known i ≡ Some w → new.known i ≡ Some w
  pub only : (i : ℕ) → i ≢ at → new.known i ≡ old.known i

-- the list may be this one, which encodes this bench: it has the length and the known words, and the bench is
-- valid and has that number of buses
pub record Fits (k : Knowledge) (image : List ℕ) (bench : Bench) : Type 0 where
  pub size : length image ≡ k.size
  pub buses : length bench.buses ≡ k.buses
  pub known : (i w : ℕ) → k.known i ≡ Some w → slice_get image i ≡ Some w
  pub encodes : Encodes image bench
  pub valid : IsValidBench bench

-- some list fits
pub record SomeFits (k : Knowledge) : Type 0 where
  pub image : List ℕ
  pub bench : Bench
  pub fits : Fits k image bench

-- the known words only grew, and where some list fitted, some list fits still
pub record Narrows (old new : Knowledge) : Type 0 where
  pub size : new.size ≡ old.size
  pub buses : new.buses ≡ old.buses
  pub kept : (i w : ℕ) → old.known i ≡ Some w → new.known i ≡ Some w
  pub some : SomeFits old → SomeFits new

-- each list that fits has this property, with the bench that it encodes
abbrev pub Holds : Knowledge → (List ℕ → Bench → Type 0) → Type 0
Holds k P = (image : List ℕ) (bench : Bench) → Fits k image bench → P image bench
