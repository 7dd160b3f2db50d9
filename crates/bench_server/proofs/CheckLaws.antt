-- How a check of a file ends: by its fault, or by the text of its counts.
use Rattle.std.proofs.Common.{◌≡◌, ℕ, List, [], Some, subst}
use Rattle.std.specs.Prelude.{Result, Ok, Err}
use Rattle.port_io.specs.declared.source.Failed.{Failed}
use Rattle.bench_model.specs.declared.database.Database.{Database}
use Rattle.bench_model.specs.declared.valid.Valid.{Valid}
use Rattle.bench_inputs.specs.Asking.{Files}
use Rattle.bench_loader.specs.declared.check.CheckRefused.{CheckRefused}
use Rattle.bench_loader.specs.declared.check.CheckRefused.TheVariants as refused
use Rattle.bench_loader.specs.Checking.{ChecksFile, HoldsNamed, IsRefusedNamed}
use Rattle.bench_server.specs.ToolText.{check_text}
use Rattle.bench_server.specs.Outcomes.{Seen, WroteNothing}
use Rattle.bench_server.specs.CheckOutcomes.{CausedCheck, ShowsCheck, EndsCheck}
use Rattle.bench_server.specs.Pieces.{WritesText}
use Rattle.bench_server.specs.EndView.{check_status, written_status}
use Rattle.bench_server.proofs.OptionLaws.{if_some, of_some}

refused_caused : (name : List ℕ) (s : Seen) (why : CheckRefused) → ChecksFile s.library name (Err why) s.library_now → WroteNothing s → CausedCheck s (check_status why)
refused_caused name s (refused.Fault fault) c nothing = nothing
refused_caused name s refused.Open c nothing = (c.answer, nothing)
refused_caused name s refused.Read c nothing = (c.answer, nothing)
refused_caused name s refused.Memory c nothing = nothing

refused_shows : (files : Files) (name : List ℕ) (s : Seen) (why : CheckRefused) → s.library.files ≡ Some files → ChecksFile s.library name (Err why) s.library_now
    → ShowsCheck files name s (check_status why)
refused_shows files name s (refused.Fault fault) e c = of_some s.library.files (λ files. IsRefusedNamed files name fault) files e c.answer
refused_shows files name s refused.Open e c = tt
refused_shows files name s refused.Read e c = tt
refused_shows files name s refused.Memory e c = tt

-- the file was refused, or not read
pub refused_end : (name : List ℕ) (s : Seen) (why : CheckRefused) → ChecksFile s.library name (Err why) s.library_now → WroteNothing s → s.logs ≡ [] → EndsCheck name s (check_status why)
refused_end name s why c nothing none = record {
  caused = refused_caused name s why c nothing;
  shows = if_some s.library.files (λ files. ShowsCheck files name s (check_status why)) (λ files e. refused_shows files name s why e c);
  no_logs = none;
  strays = c.strays;
}

written_caused : (s : Seen) (text : List ℕ) (result : Result (Unit {0}) Failed) → WritesText s.out text result s.out_now → CausedCheck s (written_status result)
written_caused s text (Ok done) w = tt
written_caused s text (Err failed) w = w.cause

written_shows : (files : Files) (name : List ℕ) (s : Seen) (valid : Valid) (result : Result (Unit {0}) Failed) → HoldsNamed files name valid.database
    → WritesText s.out (check_text valid.database) result s.out_now → ShowsCheck files name s (written_status result)
written_shows files name s valid (Ok done) h w = record { database = valid.database; is_there = h; holds = w.all }
written_shows files name s valid (Err failed) h w = record {
  database = valid.database;
  is_there = h;
  holds = record { sent = w.prefix.sent; rest = w.prefix.rest; parted = w.prefix.parted; written = w.prefix.written };
}

written_valid : (name : List ℕ) (s : Seen) (valid : Valid) (result : Result (Unit {0}) Failed) → ChecksFile s.library name (Ok valid) s.library_now
    → WritesText s.out (check_text valid.database) result s.out_now → s.logs ≡ [] → EndsCheck name s (written_status result)
written_valid name s valid result c w none = record {
  caused = written_caused s (check_text valid.database) result w;
  shows = if_some s.library.files (λ files. ShowsCheck files name s (written_status result)) (λ files e.
      written_shows files name s valid result (of_some s.library.files (λ files. HoldsNamed files name valid.database) files e c.answer) w);
  no_logs = none;
  strays = c.strays;
}

-- the counts of the database were written, or a prefix of them
pub written_end : (name : List ℕ) (s : Seen) (valid : Valid) (d : Database) (result : Result (Unit {0}) Failed) → d ≡ valid.database → ChecksFile s.library name (Ok valid) s.library_now
    → WritesText s.out (check_text d) result s.out_now → s.logs ≡ [] → EndsCheck name s (written_status result)
written_end name s valid d result e c w none =
    written_valid name s valid result c (subst (λ (t : Database). WritesText s.out (check_text t) result s.out_now) e w) none
