use Rattle.std.proofs.Common.{List, ℕ, Some, sym, ap, ◌∙◌, refl}
use Rattle.port_io.proofs.OpeningLaws.{opens_found}
use Rattle.port_io.proofs.memory_library.MemLibraryLibrary.begin.Goals as goal

pub returns-clause-opened : goal.returns-clause-opened
returns-clause-opened c =
    ((opens_found c.args.self.now.files.now c.args.name.now c.in-Some.file.now (sym c.in-Some.ensures.file)).0 ∙ ap (λ (l : List ℕ). Some l) (sym c.deref-self.ensures.value), refl)
