-- What fits where all words of a list are known, and where the rows of a valid bench are.
use Rattle.std.proofs.Common.{◌≡◌, ℕ, suc, ◌+◌, ◌*◌, List, [], ◌∷◌, length, Some, refl, sym, subst, arith}
use Rattle.std.specs.Prelude.{slice_get, All}
use Rattle.std.proofs.lemmas.Option.{slice_get_within}
use Rattle.bench_model.specs.declared.database.Signal.{Signal}
use Rattle.bench_model.specs.declared.database.Message.{Message}
use Rattle.bench_model.specs.declared.database.Bus.{Bus}
use Rattle.bench_model.specs.declared.database.Bench.{Bench}
use Rattle.bench_model.specs.Decodable.{IsDecodableSignal, IsDecodable}
use Rattle.bench_model.specs.ValidBench.{IsValidBench}
use Rattle.image_words.specs.Layout.{word, HasRows}
use Rattle.image_words.specs.Image.{HasSignal, HasDecodable, HasMessage, HasBus, Encodes}
use Rattle.image_words.specs.Knowledge.{Fits, SomeFits}
use Rattle.image_words.specs.Whole.{all_of, bus_place, message_place, signal_place}
use Rattle.image_words.proofs.SearchLaws.{all_at}
use Rattle.image_words.proofs.RowLaws.{row_of}

some_is : (a b : ℕ) → Some a ≡ Some b → b ≡ a
some_is a b e = cc

pub same_list : (xs ys : List ℕ) → length ys ≡ length xs → ((i w : ℕ) → slice_get xs i ≡ Some w → slice_get ys i ≡ Some w) → ys ≡ xs
same_list [] [] e h = refl
same_list [] (y ∷ ys) e h = absurd (omega (arith, e))
same_list (x ∷ xs) [] e h = absurd (omega (arith, e))
same_list (x ∷ xs) (y ∷ ys) e h =
    let head : y ≡ x = sym (some_is y x (h 0 x refl)) in
    let tail : ys ≡ xs = same_list xs ys (omega (arith, e)) (λ i w at. h (suc i) w at) in
    λ j. head j ∷ tail j

pub whole_fits : (image : List ℕ) (bench : Bench) → Encodes image bench → IsValidBench bench → Fits (all_of image) image bench
whole_fits image bench encodes valid = record { size = refl; buses = encodes.buses.size; known = λ i w e. e; encodes = encodes; valid = valid }

pub some_whole : (image : List ℕ) (bench : Bench) → Encodes image bench → IsValidBench bench → SomeFits (all_of image)
some_whole image bench encodes valid = record { image = image; bench = bench; fits = whole_fits image bench encodes valid }

pub only_whole : (image other : List ℕ) (bench : Bench) → Fits (all_of image) other bench → other ≡ image
only_whole image other bench f = same_list image other f.size f.known

-- ---- rows

one_at : {X : Type 0} (xs : List X) (i : ℕ) (a b : X) → slice_get xs i ≡ Some a → slice_get xs i ≡ Some b → a ≡ b
one_at xs i a b e f = cc

-- the row of an element that is there
row_at : {X : Type 0} (Has : ℕ → X → Type 0) (stride at count : ℕ) (xs : List X) (i : ℕ) (x : X) → HasRows Has stride at count xs → slice_get xs i ≡ Some x →
    Has (at + stride * i) x
row_at Has stride at count xs i x rows there =
    let found = row_of Has stride at count xs i rows (omega (arith, slice_get_within xs i x there, rows.size)) in
    subst (λ y. Has (at + stride * i) y) (one_at xs i found.0 x found.1 there) found.2

pub signal_there : (image : List ℕ) (bench : Bench) (i j k : ℕ) (bus : Bus) (message : Message) (s : Signal) → Encodes image bench →
    All IsDecodable bus.database.messages → slice_get bench.buses i ≡ Some bus → slice_get bus.database.messages j ≡ Some message →
    slice_get message.signals k ≡ Some s → HasDecodable image (signal_place image i j k) s
signal_there image bench i j k bus message s encodes decodable at_bus at_message at_signal =
    let b : HasBus image (bus_place i) bus = row_at (HasBus image) 7 2 (word image 1) bench.buses i bus encodes.buses at_bus in
    let m : HasMessage image (message_place image i j) message =
    row_at (HasMessage image) 5 (word image (bus_place i + 3)) (word image (bus_place i + 2)) bus.database.messages j message b.messages at_message in
    let row : HasSignal image (signal_place image i j k) s =
    row_at (HasSignal image) 12 (word image (message_place image i j + 4)) (word image (message_place image i j + 3)) message.signals k s m.signals at_signal in
    let whole : IsDecodable message = all_at IsDecodable bus.database.messages j message decodable at_message in
    record { signal = row; decodable = all_at IsDecodableSignal message.signals k s whole.signals at_signal }
