use Rattle.std.proofs.Common.{sym, refl, subst}
use Rattle.ldf_grammar.specs.Scaling.{IsTooWide}
use Rattle.ldf_grammar.specs.declared.statement.EncodingEntry.{EncodingEntry}
use Rattle.ldf_grammar.proofs.encodings.entry_of.Goals as goal

pub returns-in-Err-Wide-clause-wide : goal.returns-in-Err-Wide-clause-wide
returns-in-Err-Wide-clause-wide c =
    let P : EncodingEntry → Type 0 = λ e. IsTooWide c.args.bytes.now e c.in-Physical.at in
    subst P (sym c.in-Physical.is) ((rw c.in-Err-Wide.field-0-is at c.in-Err-Wide.ensures.wide), refl)
