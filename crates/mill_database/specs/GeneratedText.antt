-- The DBC file that is made for `mill`, which is this project's own: 64 messages with the same four signals each.
use Rattle.std.specs.Prelude.{ℕ, ◌+◌, List, ◌++◌, codes, decimal}
use Rattle.std.specs.List.{flat_map, range_with_len}
use Rattle.mill_log.specs.GeneratedLog.{first_id}

-- how many messages there are
abbrev pub message_count : ℕ
message_count = 64

-- their identifiers
abbrev pub id_of : ℕ → ℕ
id_of j = first_id + j

abbrev pub message_name : ℕ → List ℕ
message_name j = codes "M" ++ decimal j

-- the line of message j, and those of its signals
abbrev pub message_line : ℕ → List ℕ
message_line j = codes "BO_ " ++ (decimal (id_of j) ++ (codes " " ++ (message_name j ++ codes ": 8 Mill\n")))

unfoldable pub signal_lines : List ℕ
signal_lines =
    codes " SG_ S0 : 0|16@1+ (0.5,0) [0|0] \"\" Mill\n"
    ++ (codes " SG_ S1 : 16|16@1- (1,-40) [0|0] \"\" Mill\n"
    ++ (codes " SG_ S2 : 39|16@0+ (0.25,0) [0|0] \"\" Mill\n"
    ++ codes " SG_ S3 : 55|16@0- (1,0) [0|0] \"\" Mill\n"))

unfoldable pub message_text : ℕ → List ℕ
message_text j = message_line j ++ signal_lines

-- the whole file
unfoldable pub generated_text : List ℕ
generated_text = flat_map message_text (range_with_len 0 message_count)
