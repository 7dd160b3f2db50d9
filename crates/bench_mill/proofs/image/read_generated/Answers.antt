use Rattle.std.proofs.Common.{◌∙◌, sym, subst}
use Rattle.dbc_grammar.specs.Contract.{IsDatabaseOf}
use Rattle.mill_database.specs.GeneratedDatabase.{generated_database}
use Rattle.bench_mill.proofs.image.read_generated.Goals as goal

pub returns-in-Ok : goal.returns-in-Ok
returns-in-Ok c =
    let whole : IsDatabaseOf c.deref.result.now generated_database =
    subst (λ bytes. IsDatabaseOf bytes generated_database) (sym (c.deref.ensures.value ∙ c.in_ok-text.ensures)) c.the_generated_text_is_whole.ensures in
    c.database_is_unique.ensures.one c.deref.result.now _ generated_database c.in-Ok.ensures.ok whole
