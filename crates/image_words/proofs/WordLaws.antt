-- What is read of words of which some are known, for each list that fits.
use Rattle.std.proofs.Common.{◌≡◌, ◌≢◌, ◌∙◌, ℕ, ◌+◌, ◌<◌, List, length, refl, arith, below_more, get_or-set_other, get_or-set_same}
use Rattle.std.specs.Prelude.{slice_index, slice_set}
use Rattle.std.proofs.lemmas.Option.{get_or_from_slice_get}
use Rattle.bench_model.specs.declared.database.Bench.{Bench}
use Rattle.image_words.specs.Layout.{word}
use Rattle.image_words.specs.Knowledge.{Knowledge, Learns, Fits, SomeFits, Narrows, Holds}
use Rattle.image_words.specs.Reading.{Learned}

pub narrows_not : (k : Knowledge) → Narrows k k
narrows_not k = record { size = refl; buses = refl; kept = λ i w e. e; some = λ s. s }

pub narrows_then : (a b c : Knowledge) → Narrows a b → Narrows b c → Narrows a c
narrows_then a b c m n = record {
  size = n.size ∙ m.size;
  buses = n.buses ∙ m.buses;
  kept = λ i w e. n.kept i w (m.kept i w e);
  some = λ s. n.some (m.some s);
}

pub narrows_word : (a b : Knowledge) (at w : ℕ) → Learns a b at w → (SomeFits a → SomeFits b) → Narrows a b
narrows_word a b at w l some = record { size = l.size; buses = l.buses; kept = l.kept; some = some }

-- what fits later fitted earlier
pub fitted : (a b : Knowledge) (image : List ℕ) (bench : Bench) → Narrows a b → Fits b image bench → Fits a image bench
fitted a b image bench n f = record {
  size = f.size ∙ n.size;
  buses = f.buses ∙ n.buses;
  known = λ i w e. f.known i w (n.kept i w e);
  encodes = f.encodes;
  valid = f.valid;
}

-- a word that was read is the list's
pub word_read : (a b : Knowledge) (at w : ℕ) → Learns a b at w → Holds b (λ image bench. word image at ≡ w)
word_read a b at w l image bench f = get_or_from_slice_get image at w 0 (f.known at w l.given)

-- ---- the same of what has the words

pub learned_none : {W : Type 0} (knows : W → Knowledge) (reads : W → W → Type 0) → ((w : W) → reads w w) → (w : W) → Learned knows reads w w
learned_none knows reads same w = record { narrows = narrows_not (knows w); reads_on = same w }

pub learned_then : {W : Type 0} (knows : W → Knowledge) (reads : W → W → Type 0) → ((a b c : W) → reads a b → reads b c → reads a c) →
    (a b c : W) → Learned knows reads a b → Learned knows reads b c → Learned knows reads a c
learned_then knows reads chain a b c l m = record {
  narrows = narrows_then (knows a) (knows b) (knows c) l.narrows m.narrows;
  reads_on = chain a b c l.reads_on m.reads_on;
}

pub learned_word : {W : Type 0} (knows : W → Knowledge) (reads : W → W → Type 0) (a b : W) (at w : ℕ) → Learns (knows a) (knows b) at w →
    (SomeFits (knows a) → SomeFits (knows b)) → reads a b → Learned knows reads a b
learned_word knows reads a b at w l some r = record { narrows = narrows_word (knows a) (knows b) at w l some; reads_on = r }

pub earlier : {W : Type 0} (knows : W → Knowledge) (reads : W → W → Type 0) (a b : W) (image : List ℕ) (bench : Bench) → Learned knows reads a b →
    Fits (knows b) image bench → Fits (knows a) image bench
earlier knows reads a b image bench l f = fitted (knows a) (knows b) image bench l.narrows f

-- one word more of a row
pub words_more : (image : List ℕ) (at i w : ℕ) (row : List ℕ) → i < length row →
    ((k : ℕ) → k < i → word image (at + k) ≡ slice_index row k) → word image (at + i) ≡ w →
    (k : ℕ) → k < i + 1 → word image (at + k) ≡ slice_index (slice_set row i w) k
words_more image at i w row within before here = below_more _ _
    (λ k h. let other : k ≢ i = omega arith in rw get_or-set_other (before k h))
    (rw get_or-set_same here)
