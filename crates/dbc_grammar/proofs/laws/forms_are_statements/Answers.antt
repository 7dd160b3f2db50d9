use Rattle.dbc_grammar.proofs.PartLaws.{found_both}
use Rattle.dbc_grammar.proofs.StatementParsesLaws.{Below, statement_part}
use Rattle.dbc_grammar.specs.Forms.{statement_at}
use Rattle.dbc_grammar.specs.Statements.{Parses}
use Rattle.dbc_grammar.proofs.laws.forms_are_statements.Goals as goal

pub returns : goal.returns
returns c =
    let f = c.forms_find_what_parses.ensures in
    let below : Below = record {
      pieces = record {
        quoted = f.quoted;
        word = f.word;
        string = f.string;
        whole = f.whole;
        digits = f.digits;
        signed = f.signed;
      };
      values = record { value = f.value };
      signals = record { some = c.one_longest_run.ensures.some; one = c.one_longest_run.ensures.one };
      texts = record { some = c.one_longest_run-2.ensures.some; one = c.one_longest_run-2.ensures.one };
      ranges = record { some = c.one_longest_run-3.ensures.some; one = c.one_longest_run-3.ensures.one };
      tokens = record { some = c.one_longest_run-4.ensures.some; one = c.one_longest_run-4.ensures.one };
    } in
    λ text tokens statement rest. found_both (statement_at text) (Parses text) (statement_part below text) tokens statement rest
