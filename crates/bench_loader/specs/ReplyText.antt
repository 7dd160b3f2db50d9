-- The line that answers a command. A bus is named by its name; where there is no name for its place, by the place.
use Rattle.std.specs.Prelude.{ℕ, List, [], ◌∷◌, ◌++◌, codes, flat_map, slice_index_or}
use Rattle.std.specs.Fmt.{decimal}
use Rattle.text_words.specs.SpacedWords.{text_of_words}
use Rattle.sig_text.specs.Bytes.{line_feed}
use Rattle.region_store.specs.declared.loader.Holder.{Holder}
use Rattle.bench_loader.specs.declared.reply.Reply.{Reply}
use Rattle.bench_loader.specs.declared.reply.Reply.TheVariants as replies
use Rattle.bench_loader.specs.FaultText.{fault_text}

-- the name of the bus at this place
abbrev pub bus_word : List (List ℕ) → ℕ → List ℕ
bus_word names bus = slice_index_or names bus (decimal bus)

-- a lane that may hold a region: the region, the lane and its pin
abbrev pub holder_words : Holder → List (List ℕ)
holder_words h = decimal h.region ∷ decimal h.lane ∷ decimal h.pin ∷ []

abbrev pub reply_words : List (List ℕ) → Reply → List (List ℕ)
reply_words names (replies.Ok version) = codes "ok" ∷ decimal version ∷ []
reply_words names replies.Words = codes "words" ∷ []
reply_words names (replies.UnknownBus place name) = codes "unknown" ∷ name ∷ []
reply_words names (replies.OpenFault bus) = codes "open" ∷ bus_word names bus ∷ []
reply_words names (replies.ReadFault bus) = codes "read" ∷ bus_word names bus ∷ []
reply_words names (replies.Refused bus fault) = codes "refused" ∷ bus_word names bus ∷ fault_text fault ∷ []
reply_words names (replies.TooLarge need room) = codes "large" ∷ decimal need ∷ decimal room ∷ []
reply_words names replies.VersionsSpent = codes "spent" ∷ []
reply_words names (replies.Busy holders) = codes "busy" ∷ flat_map holder_words holders.each.items
reply_words names replies.Memory = codes "memory" ∷ []

-- its words, parted by single blanks, and a line feed
abbrev pub reply_line : List (List ℕ) → Reply → List ℕ
reply_line names reply = text_of_words (reply_words names reply) ++ line_feed ∷ []
