-- What the steps of reading answer is the database of the bytes, or their fault.
use Rattle.std.proofs.Common.{◌≡◌, sym, subst, ℕ, List, Bool, false, refl, inl, inr, Ok, Err, Result, IfOk, IfErr}
use Rattle.std.specs.Prelude.{IsTrue, IsUtf8, ◌↔◌}
use Rattle.bench_model.specs.declared.database.Database.{Database}
use Rattle.bench_model.specs.declared.database.Message.{Message}
use Rattle.bench_model.specs.declared.valid.Valid.{Valid}
use Rattle.bench_model.specs.Check.{IsValid}
use Rattle.sig_text.specs.declared.token.Token.{Token}
use Rattle.sig_text.specs.Tokens.{IsTokens}
use Rattle.dbc_grammar.specs.declared.fault.DbcFault.{DbcFault}
use Rattle.dbc_grammar.specs.declared.fault.DbcFault.TheVariants as faults
use Rattle.dbc_grammar.specs.declared.row.Row.{Row}
use Rattle.dbc_grammar.specs.declared.statements.Kept.{Kept}
use Rattle.dbc_grammar.specs.declared.statement.Note.{Note}
use Rattle.dbc_grammar.specs.declared.statement.Statement.{Statement}
use Rattle.dbc_grammar.specs.declared.statement.MessageForm.{MessageForm}
use Rattle.dbc_grammar.specs.Naming.{Noted, noted_in}
use Rattle.dbc_grammar.specs.Gather.{messages_of, notes_of}
use Rattle.dbc_grammar.specs.Contract.{AreStatements, Gathers, IsDatabaseOf, IsFirstWide, IsFirstTreeless, all_signals, IsFaultOrMemory}
use Rattle.dbc_grammar.specs.Kept.{IsKeptOf, StopsAt}
use Rattle.dbc_grammar.specs.Rows.{IsWideFault, AreRowsOf}
use Rattle.dbc_grammar.specs.Reads.{IsLexOrMemory, IsTreelessFault, AreMessagesOf, IsCheckOrMemory}
use Rattle.dbc_grammar.proofs.WideLaws.{AreScaled, rows_scaled}

-- what was read of a text, whose statements are these
pub record IsRead (text : List ℕ) (kept : Kept) : Type 0 where
  pub statements : List Statement
  pub are_statements : AreStatements text statements
  pub messages : kept.messages.items ≡ messages_of statements
  pub notes : kept.notes.items ≡ notes_of statements

pub read_of : (text : List ℕ) (tokens : List Token) (kept : Kept) → IsKeptOf text tokens kept → IsTokens text false tokens → IsRead text kept
read_of text tokens kept is are = record {
  statements = is.statements;
  are_statements = record { tokens = tokens; are_tokens = are; all = is.all };
  messages = is.messages;
  notes = is.notes;
}

gathers : (text : List ℕ) (kept : Kept) (utf8 : Bool) (d : Database) (read : IsRead text kept) → IsTrue utf8 ↔ IsUtf8 text →
    AreMessagesOf text utf8 (noted_in text kept.notes.items) kept.messages.items d.messages → Gathers text read.statements d
gathers text kept utf8 d read is_utf8 are = record {
  utf8 = utf8;
  is_utf8 = is_utf8;
  messages = subst (λ (ms : List MessageForm). AreMessagesOf text utf8 (noted_in text (notes_of read.statements)) ms d.messages) read.messages
      (subst (λ (ns : List Note). AreMessagesOf text utf8 (noted_in text ns) kept.messages.items d.messages) read.notes are);
}

pub database_read : (text : List ℕ) (kept : Kept) (utf8 : Bool) (d : Database) (result : Result Valid DbcFault) → IsRead text kept →
    IsTrue utf8 ↔ IsUtf8 text → AreMessagesOf text utf8 (noted_in text kept.notes.items) kept.messages.items d.messages →
    IfOk result (λ (v : Valid). v.database ≡ d) → IfOk result (λ (v : Valid). IsValid v.database) → IfOk result (λ (v : Valid). IsDatabaseOf text v.database)
database_read text kept utf8 d (Ok v) read is_utf8 are same valid = record {
  statements = read.statements;
  are_statements = read.are_statements;
  gathers = subst (Gathers text read.statements) (sym same) (gathers text kept utf8 d read is_utf8 are);
  valid = valid;
}
database_read text kept utf8 d (Err fault) read is_utf8 are same valid = tt

broken : (text : List ℕ) (kept : Kept) (utf8 : Bool) (d : Database) (fault : DbcFault) → IsRead text kept →
    IsTrue utf8 ↔ IsUtf8 text → AreMessagesOf text utf8 (noted_in text kept.notes.items) kept.messages.items d.messages →
    IsCheckOrMemory d fault → IsFaultOrMemory text fault
broken text kept utf8 d (faults.Check fault) read is_utf8 are first =
    inl (read.statements, d, read.are_statements, gathers text kept utf8 d read is_utf8 are, first)
broken text kept utf8 d faults.Memory read is_utf8 are first = inr refl
broken text kept utf8 d (faults.Lex fault) read is_utf8 are first = absurd first
broken text kept utf8 d (faults.Statement at) read is_utf8 are first = absurd first
broken text kept utf8 d (faults.Scale at) read is_utf8 are first = absurd first
broken text kept utf8 d (faults.Mux id signal why) read is_utf8 are first = absurd first

pub rule_broken : (text : List ℕ) (kept : Kept) (utf8 : Bool) (d : Database) (result : Result Valid DbcFault) → IsRead text kept →
    IsTrue utf8 ↔ IsUtf8 text → AreMessagesOf text utf8 (noted_in text kept.notes.items) kept.messages.items d.messages →
    IfErr result (IsCheckOrMemory d) → IfErr result (IsFaultOrMemory text)
rule_broken text kept utf8 d (Ok v) read is_utf8 are first = tt
rule_broken text kept utf8 d (Err fault) read is_utf8 are first = broken text kept utf8 d fault read is_utf8 are first

pub too_wide_read : (text : List ℕ) (kept : Kept) (fault : DbcFault) → IsRead text kept →
    IsWideFault text (all_signals kept.messages.items) fault → IsFaultOrMemory text fault
too_wide_read text kept (faults.Scale at) read wide = inl (record {
  statements = read.statements;
  are_statements = read.are_statements;
  wide = subst (λ (ms : List MessageForm). IsFirstWide text (all_signals ms) at) read.messages wide;
})
too_wide_read text kept faults.Memory read wide = inr refl
too_wide_read text kept (faults.Lex fault) read wide = absurd wide
too_wide_read text kept (faults.Statement at) read wide = absurd wide
too_wide_read text kept (faults.Check fault) read wide = absurd wide
too_wide_read text kept (faults.Mux id signal why) read wide = absurd wide

pub treeless_read : (text : List ℕ) (kept : Kept) (utf8 : Bool) (rows : List Row) (fault : DbcFault) → IsRead text kept →
    AreRowsOf text utf8 (noted_in text kept.notes.items) kept.messages.items rows →
    IsTreelessFault text (noted_in text kept.notes.items) kept.messages.items fault → IsFaultOrMemory text fault
treeless_read text kept utf8 rows (faults.Mux id name why) read are first = inl (record {
  statements = read.statements;
  are_statements = read.are_statements;
  scaled = subst (λ (ms : List MessageForm). AreScaled text (all_signals ms)) read.messages
      (rows_scaled text utf8 (noted_in text kept.notes.items) kept.messages.items 0 kept.messages.items rows are);
  treeless = subst (λ (ms : List MessageForm). IsFirstTreeless text (noted_in text (notes_of read.statements)) ms id name why) read.messages
      (subst (λ (ns : List Note). IsFirstTreeless text (noted_in text ns) kept.messages.items id name why) read.notes first);
})
treeless_read text kept utf8 rows faults.Memory read are first = inr refl
treeless_read text kept utf8 rows (faults.Lex fault) read are first = absurd first
treeless_read text kept utf8 rows (faults.Statement at) read are first = absurd first
treeless_read text kept utf8 rows (faults.Scale at) read are first = absurd first
treeless_read text kept utf8 rows (faults.Check fault) read are first = absurd first

pub lex_read : (text : List ℕ) (fault : DbcFault) → IsLexOrMemory text fault → IsFaultOrMemory text fault
lex_read text (faults.Lex fault) is = inl is
lex_read text faults.Memory is = inr refl
lex_read text (faults.Statement at) is = absurd is
lex_read text (faults.Scale at) is = absurd is
lex_read text (faults.Check fault) is = absurd is
lex_read text (faults.Mux id signal why) is = absurd is

pub stop_read : (text : List ℕ) (tokens : List Token) (fault : DbcFault) → IsTokens text false tokens → StopsAt text tokens fault →
    IsFaultOrMemory text fault
stop_read text tokens (faults.Statement at) are stops = inl (record {
  tokens = tokens;
  are_tokens = are;
  broken = stops;
})
stop_read text tokens faults.Memory are stops = inr refl
stop_read text tokens (faults.Lex fault) are stops = absurd stops
stop_read text tokens (faults.Scale at) are stops = absurd stops
stop_read text tokens (faults.Check fault) are stops = absurd stops
stop_read text tokens (faults.Mux id signal why) are stops = absurd stops

-- rows and messages of what was read, however the code refers to it
pub rows_in : (text : List ℕ) (utf8 : Bool) (messages seen : List MessageForm) (notes noted : List Note) (rows : List Row) →
    seen ≡ messages → noted ≡ notes → AreRowsOf text utf8 (noted_in text noted) seen rows → AreRowsOf text utf8 (noted_in text notes) messages rows
rows_in text utf8 messages seen notes noted rows same_messages same_notes are =
    subst (λ (ns : List Note). AreRowsOf text utf8 (noted_in text ns) messages rows) same_notes
    (subst (λ (ms : List MessageForm). AreRowsOf text utf8 (noted_in text noted) ms rows) same_messages are)

pub messages_in_place : (text : List ℕ) (utf8 : Bool) (noted : Noted) (forms seen : List MessageForm) (rows : List Row) (messages result : List Message) →
    seen ≡ forms → result ≡ messages → AreRowsOf text utf8 noted forms rows →
    ((u : Bool) (n : Noted) → AreRowsOf text u n seen rows → AreMessagesOf text u n seen messages) → AreMessagesOf text utf8 noted forms result
messages_in_place text utf8 noted forms seen rows messages result same same_result are made =
    subst (λ (ms : List Message). AreMessagesOf text utf8 noted forms ms) (sym same_result)
    (subst (λ (fs : List MessageForm). AreMessagesOf text utf8 noted fs messages) same
    (made utf8 noted (subst (λ (fs : List MessageForm). AreRowsOf text utf8 noted fs rows) (sym same) are)))

pub treeless_in_place : (text : List ℕ) (utf8 : Bool) (noted : Noted) (forms seen : List MessageForm) (rows : List Row) (fault : DbcFault) →
    seen ≡ forms → AreRowsOf text utf8 noted forms rows →
    ((u : Bool) (n : Noted) → AreRowsOf text u n seen rows → IsTreelessFault text n seen fault) → IsTreelessFault text noted forms fault
treeless_in_place text utf8 noted forms seen rows fault same are first =
    subst (λ (fs : List MessageForm). IsTreelessFault text noted fs fault) same
    (first utf8 noted (subst (λ (fs : List MessageForm). AreRowsOf text utf8 noted fs rows) (sym same) are))
