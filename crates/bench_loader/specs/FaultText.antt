-- The text of a database's fault, as the tool and the server name it: words parted by single blanks.
use Rattle.std.specs.Prelude.{ℕ, ◌+◌, List, [], ◌∷◌, ◌++◌, codes, Option, Some, None, if◌then◌else◌}
use Rattle.std.specs.Fmt.{decimal}
use Rattle.text_words.specs.SpacedWords.{text_of_words}
use Rattle.sig_text.specs.declared.fault.LexFault.{LexFault}
use Rattle.sig_text.specs.declared.fault.LexFault.TheVariants as lex
use Rattle.multiplex_tree.specs.declared.fault.MuxWhy.{MuxWhy}
use Rattle.multiplex_tree.specs.declared.fault.MuxWhy.TheVariants as mux
use Rattle.bench_model.specs.declared.database.Key.{Key}
use Rattle.bench_model.specs.declared.fault.CheckWhy.{CheckWhy}
use Rattle.bench_model.specs.declared.fault.CheckWhy.TheVariants as why
use Rattle.bench_model.specs.declared.fault.CheckFault.{CheckFault}
use Rattle.bench_model.specs.declared.fault.CheckFault.TheVariants as check
use Rattle.dbc_grammar.specs.Limits.{first_long_id}
use Rattle.dbc_grammar.specs.declared.fault.DbcFault.{DbcFault}
use Rattle.dbc_grammar.specs.declared.fault.DbcFault.TheVariants as dbc
use Rattle.ldf_grammar.specs.declared.fault.LdfFault.{LdfFault}
use Rattle.ldf_grammar.specs.declared.fault.LdfFault.TheVariants as ldf
use Rattle.bench_loader.specs.declared.fault.DatabaseFault.{DatabaseFault}
use Rattle.bench_loader.specs.declared.fault.DatabaseFault.TheVariants as faults

-- an identifier as a DBC writes it, 2^31 more where it is extended
abbrev pub identifier : Key → ℕ
identifier key = if key.extended then key.id + first_long_id else key.id

abbrev pub lex_words : LexFault → List (List ℕ)
lex_words (lex.OpenString at) = codes "string" ∷ decimal at ∷ []
lex_words (lex.OpenComment at) = codes "comment" ∷ decimal at ∷ []
lex_words (lex.Byte at) = codes "byte" ∷ decimal at ∷ []
lex_words lex.Memory = codes "memory" ∷ []

abbrev pub mux_word : MuxWhy → List ℕ
mux_word mux.NoParent = codes "noparent"
mux_word mux.Ambiguous = codes "ambiguous"
mux_word mux.Cycle = codes "cycle"
mux_word mux.Deep = codes "deep"

abbrev pub check_word : CheckWhy → List ℕ
check_word why.Size = codes "size"
check_word why.DuplicateMessage = codes "message"
check_word why.DuplicateSignal = codes "signal"
check_word why.Float = codes "float"
check_word why.Limit = codes "limit"

-- the identifier of a message and the name of a signal, where they are there
abbrev pub message_words : Option Key → List (List ℕ)
message_words None = []
message_words (Some key) = decimal (identifier key) ∷ []

abbrev pub signal_words : Option (List ℕ) → List (List ℕ)
signal_words None = []
signal_words (Some name) = name ∷ []

abbrev pub check_words : CheckFault → List (List ℕ)
check_words (check.At w message signal) = check_word w ∷ (message_words message ++ signal_words signal)
check_words check.Memory = codes "memory" ∷ []

abbrev pub dbc_words : DbcFault → List (List ℕ)
dbc_words (dbc.Lex fault) = lex_words fault
dbc_words (dbc.Statement at) = codes "statement" ∷ decimal at ∷ []
dbc_words (dbc.Scale at) = codes "scale" ∷ decimal at ∷ []
dbc_words (dbc.Mux id signal w) = codes "mux" ∷ decimal id ∷ signal ∷ mux_word w ∷ []
dbc_words (dbc.Check fault) = check_words fault
dbc_words dbc.Memory = codes "memory" ∷ []

abbrev pub ldf_words : LdfFault → List (List ℕ)
ldf_words (ldf.Lex fault) = lex_words fault
ldf_words (ldf.Statement at) = codes "statement" ∷ decimal at ∷ []
ldf_words (ldf.Scale at) = codes "scale" ∷ decimal at ∷ []
ldf_words (ldf.UnknownName at) = codes "name" ∷ decimal at ∷ []
ldf_words (ldf.Check fault) = check_words fault
ldf_words ldf.Memory = codes "memory" ∷ []

abbrev pub fault_words : DatabaseFault → List (List ℕ)
fault_words faults.Long = codes "long" ∷ []
fault_words (faults.Dbc fault) = dbc_words fault
fault_words (faults.Ldf fault) = ldf_words fault

abbrev pub fault_text : DatabaseFault → List ℕ
fault_text fault = text_of_words (fault_words fault)
