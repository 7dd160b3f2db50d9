-- Messages out of statements and rows, and the first that has no tree.
use Rattle.std.proofs.Common.{◌≡◌, ◌∙◌, sym, ap, subst, ℕ, ◌+◌, ◌<◌, List, [], ◌∷◌, ◌++◌, length, get_or, take, drop, suc, Bool, arith, add-one}
use Rattle.std.specs.List.{enumerate_from, AllByRecursion, AllZip}
use Rattle.std.proofs.Math.Seq.{drop-cons}
use Rattle.std.proofs.lemmas.List.{length-take}
use Rattle.multiplex_tree.specs.declared.mark.Mark.{Mark}
use Rattle.multiplex_tree.specs.declared.mark.Link.{Link}
use Rattle.multiplex_tree.specs.declared.fault.MuxFault.TheVariants as mux
use Rattle.multiplex_tree.specs.Fault.{IsTree, IsFault}
use Rattle.bench_model.specs.declared.database.Message.{Message}
use Rattle.dbc_grammar.specs.declared.fault.DbcFault.{DbcFault}
use Rattle.dbc_grammar.specs.declared.fault.DbcFault.TheVariants as faults
use Rattle.dbc_grammar.specs.declared.row.Row.{Row}
use Rattle.dbc_grammar.specs.declared.statement.MessageForm.{MessageForm}
use Rattle.dbc_grammar.specs.Naming.{Noted, is_first_message}
use Rattle.dbc_grammar.specs.Gather.{AreSignalsOf, message_marks}
use Rattle.dbc_grammar.specs.Contract.{IsMessageAt, HasSomeTree}
use Rattle.dbc_grammar.specs.Rows.{IsRowAt}
use Rattle.dbc_grammar.specs.Reads.{IsMessageOf, IsTreeFault, IsTreelessFault}
use Rattle.dbc_grammar.proofs.ListLaws.{each_more, enumerated_more}
use Rattle.dbc_grammar.proofs.WideLaws.{cut_at}

-- a message of a row is the message of its statement
message_of_row : (text : List ℕ) (utf8 : Bool) (noted : Noted) (forms : List MessageForm) (i : ℕ) (form : MessageForm) (row : Row) (m : Message) →
    IsRowAt text utf8 noted forms (i, form) row → IsMessageOf text form row m → IsMessageAt text utf8 noted forms (i, form) m
message_of_row text utf8 noted forms i form row m is made =
    let named = is_first_message forms i form in
    record {
      name = made.name;
      key = made.key;
      byte_count = made.byte_count;
      signals = subst (λ s. AreSignalsOf text utf8 noted named form s) (sym made.signals) is.signals;
      tree = subst (λ (l : List Link). IsTree (message_marks form) l m.tree.parents) is.links
          (subst (λ (marks : List Mark). IsTree marks row.links.items m.tree.parents) is.marks made.tree);
    }

-- what is done, and the rows that are ahead
pub record IsUnderWay (text : List ℕ) (utf8 : Bool) (noted : Noted) (forms : List MessageForm) (i : ℕ) (done : List Message) (ahead : List Row) : Type 0 where
  pub messages : AllZip (IsMessageAt text utf8 noted forms) (enumerate_from 0 (take i forms)) done
  pub rows : AllZip (IsRowAt text utf8 noted forms) (enumerate_from i (drop i forms)) ahead

-- the next row is that of the next statement
pub next_row : (text : List ℕ) (utf8 : Bool) (noted : Noted) (forms : List MessageForm) (i : ℕ) (form : MessageForm) (done : List Message) (ahead left : List Row) (row : Row) →
    i < length forms → form ≡ get_or forms i form → ahead ≡ row ∷ left → IsUnderWay text utf8 noted forms i done ahead →
    IsRowAt text utf8 noted forms (i, form) row × AllZip (IsRowAt text utf8 noted forms) (enumerate_from (i + 1) (drop (i + 1) forms)) left
next_row text utf8 noted forms i form done ahead left row below there popped way =
    let R = IsRowAt text utf8 noted forms in
    let prefix : drop i forms ≡ form ∷ drop (i + 1) forms =
    drop-cons forms i form below ∙ ap (λ (m : MessageForm). m ∷ drop (suc i) forms) (sym there) ∙ ap (λ k. form ∷ drop k forms) (sym (add-one i)) in
    let each = subst (λ xs. AllZip R (enumerate_from i xs) (row ∷ left)) prefix
    (subst (λ ys. AllZip R (enumerate_from i (drop i forms)) ys) popped way.rows) in
    (each.0, each.1)

pub one_more_message : (text : List ℕ) (utf8 : Bool) (noted : Noted) (forms : List MessageForm) (i : ℕ) (form : MessageForm) (done new : List Message)
    (ahead left : List Row) (row : Row) (m : Message) →
    i < length forms → form ≡ get_or forms i form → ahead ≡ row ∷ left → IsMessageOf text form row m → new ≡ done ++ m ∷ [] →
    IsUnderWay text utf8 noted forms i done ahead → IsUnderWay text utf8 noted forms (i + 1) new left
one_more_message text utf8 noted forms i form done new ahead left row m below there popped made added way =
    let R = IsMessageAt text utf8 noted forms in
    let next = next_row text utf8 noted forms i form done ahead left row below there popped way in
    let one : R (i, get_or forms i form) m =
    subst (λ (x : MessageForm). R (i, x) m) there (message_of_row text utf8 noted forms i form row m next.0 made) in
    record {
      messages = subst (λ ys. AllZip R (enumerate_from 0 (take (i + 1) forms)) ys) (sym added)
          (subst (λ xs. AllZip R xs (done ++ m ∷ [])) (sym (enumerated_more forms i form below))
          (each_more R (enumerate_from 0 (take i forms)) done (i, get_or forms i form) m way.messages one));
      rows = next.1;
    }

-- messages have trees
pub messages_have_trees : (text : List ℕ) (utf8 : Bool) (noted : Noted) (all : List MessageForm) (n : ℕ) (forms : List MessageForm) (messages : List Message) →
    AllZip (IsMessageAt text utf8 noted all) (enumerate_from n forms) messages → AllByRecursion (HasSomeTree text noted all) (enumerate_from n forms)
messages_have_trees text utf8 noted all n [] messages each = tt
messages_have_trees text utf8 noted all n (f ∷ forms) [] each = absurd each
messages_have_trees text utf8 noted all n (f ∷ forms) (m ∷ messages) each =
    ((m.tree.parents, each.0.tree), messages_have_trees text utf8 noted all (n + 1) forms messages each.1)

-- a fault of the next message is that of the first without a tree
pub first_treeless : (text : List ℕ) (utf8 : Bool) (noted : Noted) (forms : List MessageForm) (i : ℕ) (form : MessageForm) (done : List Message)
    (ahead left : List Row) (row : Row) (fault : DbcFault) →
    i < length forms → form ≡ get_or forms i form → ahead ≡ row ∷ left → IsTreeFault text form row.marks.items row.links.items fault →
    IsUnderWay text utf8 noted forms i done ahead → IsTreelessFault text noted forms fault
first_treeless text utf8 noted forms i form done ahead left row (faults.Mux id name why) below there popped names way =
    let next = next_row text utf8 noted forms i form done ahead left row below there popped way in
    record {
      before = take i forms;
      message = form;
      after = drop (i + 1) forms;
      cut = cut_at forms i form below ∙ ap (λ (m : MessageForm). take i forms ++ m ∷ drop (i + 1) forms) (sym there);
      place = i;
      place_is = omega (arith, length-take i forms);
      signal = names.signal;
      form = names.form;
      form_is = names.form_is;
      fault = subst (λ (l : List Link). IsFault (message_marks form) l (mux.At names.signal why)) next.0.links
          (subst (λ (marks : List Mark). IsFault marks row.links.items (mux.At names.signal why)) next.0.marks names.fault);
      first = messages_have_trees text utf8 noted forms 0 (take i forms) done way.messages;
      id_is = names.id_is;
      name_is = names.name_is;
    }
first_treeless text utf8 noted forms i form done ahead left row faults.Memory below there popped names way = tt
first_treeless text utf8 noted forms i form done ahead left row (faults.Lex fault) below there popped names way = names
first_treeless text utf8 noted forms i form done ahead left row (faults.Statement at) below there popped names way = names
first_treeless text utf8 noted forms i form done ahead left row (faults.Scale at) below there popped names way = names
first_treeless text utf8 noted forms i form done ahead left row (faults.Check fault) below there popped names way = names
