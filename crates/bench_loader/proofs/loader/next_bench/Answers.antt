use Rattle.std.proofs.Common.{Ok, Err, length, ap, sym, ◌∙◌}
use Rattle.bench_loader.specs.declared.reply.Reply.TheVariants as replies
use Rattle.bench_loader.specs.Targets.{NamesBuses, IsTarget}
use Rattle.bench_loader.specs.ReplyView.{reply_of_line, reply_of_bus, reply_of_file, reply_of_bench}
use Rattle.bench_loader.proofs.NextLaws.{keeps_same, keeps_asked, asks_all, finds_as, memory_early, line_early, bus_early, file_early, fault_early, is_next, targets_at, files_at, changes_at}
use Rattle.bench_loader.proofs.ZipLaws.{length-all_zip}
use Rattle.bench_loader.proofs.loader.next_bench.Goals as goal

pub returns-in_err-pairs : goal.returns-in_err-pairs
returns-in_err-pairs g c =
    finds_as _ _ c.args.bench.now c.args.line.now c.from_residual.result (reply_of_line c.in_err-pairs.field-0.0) c.from_residual.ensures.1
    (keeps_same _ c.args.bench.now c.args.line.now) (line_early _ _ c.args.bench.now c.args.line.now c.in_err-pairs.field-0.0 c.in_err-pairs.ensures)

pub returns-in_err-targets : goal.returns-in_err-targets
returns-in_err-targets g c =
    let first = targets_at c.items.result.now c.args.bench.now.buses c.deref.result.now c.in_ok-pairs.pairs.items (Err c.in_err-targets.field-0.0) c.items.ensures c.deref.ensures.value c.in_err-targets.ensures in
    finds_as _ _ c.args.bench.now c.args.line.now c.from_residual-in_err-targets.result (reply_of_bus c.in_err-targets.field-0.0) c.from_residual-in_err-targets.ensures.1
    (keeps_same _ c.args.bench.now c.args.line.now)
    (bus_early _ _ c.args.bench.now c.args.line.now c.in_ok-pairs.pairs.items c.in_err-targets.field-0.0 c.in_ok-pairs.ensures first)

pub read_files-requires : goal.read_files-requires
read_files-requires g c =
    let found = targets_at c.items.result.now c.args.bench.now.buses c.deref.result.now c.in_ok-pairs.pairs.items (Ok c.in_ok-targets.targets) c.items.ensures c.deref.ensures.value c.in_ok-targets.ensures in
    ap length c.deref-3.ensures.value ∙ length-all_zip (IsTarget c.args.bench.now.buses) c.in_ok-pairs.pairs.items c.in_ok-targets.targets.items found ∙ sym (ap length c.deref-2.ensures.value)

pub judge_files-requires : goal.judge_files-requires
judge_files-requires g c =
    let found = targets_at c.items.result.now c.args.bench.now.buses c.deref.result.now c.in_ok-pairs.pairs.items (Ok c.in_ok-targets.targets) c.items.ensures c.deref.ensures.value c.in_ok-targets.ensures in
    let read = files_at _ _ c.deref-2.result.now c.in_ok-pairs.pairs.items c.deref-3.result.now c.in_ok-targets.targets.items (Ok c.in_ok-files.files) c.deref-2.ensures.value c.deref-3.ensures.value c.in_ok-files.ensures in
    ap length c.deref-4.ensures.value ∙ length-all_zip (IsTarget c.args.bench.now.buses) c.in_ok-pairs.pairs.items c.in_ok-targets.targets.items found ∙ sym read.count ∙ sym (ap length c.deref-5.ensures.value)

pub returns-in_err-files : goal.returns-in_err-files
returns-in_err-files g c =
    let names : NamesBuses c.args.bench.now.buses c.args.line.now c.in_ok-pairs.pairs.items c.in_ok-targets.targets.items = record {
      load = c.in_ok-pairs.ensures;
      found = targets_at c.items.result.now c.args.bench.now.buses c.deref.result.now c.in_ok-pairs.pairs.items (Ok c.in_ok-targets.targets) c.items.ensures c.deref.ensures.value c.in_ok-targets.ensures;
    } in
    let stops = files_at _ _ c.deref-2.result.now c.in_ok-pairs.pairs.items c.deref-3.result.now c.in_ok-targets.targets.items (Err c.in_err-files.field-0.0) c.deref-2.ensures.value c.deref-3.ensures.value c.in_err-files.ensures in
    finds_as _ _ c.args.bench.now c.args.line.now c.from_residual-in_err-files.result (reply_of_file c.in_err-files.field-0.0) c.from_residual-in_err-files.ensures.1
    (keeps_asked c.files_that_are_there.ensures _ _ c.args.bench.now c.args.line.now c.in_ok-pairs.pairs.items c.in_ok-targets.targets.items names stops.asks)
    (file_early _ _ c.args.bench.now c.args.line.now c.in_ok-pairs.pairs.items c.in_ok-targets.targets.items c.in_err-files.field-0.0 names stops)

pub returns-in_err-changes : goal.returns-in_err-changes
returns-in_err-changes g c =
    let names : NamesBuses c.args.bench.now.buses c.args.line.now c.in_ok-pairs.pairs.items c.in_ok-targets.targets.items = record {
      load = c.in_ok-pairs.ensures;
      found = targets_at c.items.result.now c.args.bench.now.buses c.deref.result.now c.in_ok-pairs.pairs.items (Ok c.in_ok-targets.targets) c.items.ensures c.deref.ensures.value c.in_ok-targets.ensures;
    } in
    let read = files_at _ _ c.deref-2.result.now c.in_ok-pairs.pairs.items c.deref-3.result.now c.in_ok-targets.targets.items (Ok c.in_ok-files.files) c.deref-2.ensures.value c.deref-3.ensures.value c.in_ok-files.ensures in
    let judged = changes_at c.deref-4.result.now c.in_ok-targets.targets.items c.deref-5.result.now c.in_ok-files.files.items (Err c.in_err-changes.field-0.0) c.deref-4.ensures.value c.deref-5.ensures.value c.in_err-changes.ensures in
    finds_as _ _ c.args.bench.now c.args.line.now c.from_residual-in_err-changes.result (reply_of_bench c.in_err-changes.field-0.0) c.from_residual-in_err-changes.ensures.1
    (keeps_asked c.files_that_are_there.ensures _ _ c.args.bench.now c.args.line.now c.in_ok-pairs.pairs.items c.in_ok-targets.targets.items names (asks_all _ _ _ read.asks))
    (fault_early _ _ c.args.bench.now c.args.line.now c.in_ok-pairs.pairs.items c.in_ok-targets.targets.items c.in_ok-files.files.items c.in_err-changes.field-0.0 names read.count read.are_files judged)

pub returns-in_err-replace : goal.returns-in_err-replace
returns-in_err-replace g c =
    let names : NamesBuses c.args.bench.now.buses c.args.line.now c.in_ok-pairs.pairs.items c.in_ok-targets.targets.items = record {
      load = c.in_ok-pairs.ensures;
      found = targets_at c.items.result.now c.args.bench.now.buses c.deref.result.now c.in_ok-pairs.pairs.items (Ok c.in_ok-targets.targets) c.items.ensures c.deref.ensures.value c.in_ok-targets.ensures;
    } in
    let read = files_at _ _ c.deref-2.result.now c.in_ok-pairs.pairs.items c.deref-3.result.now c.in_ok-targets.targets.items (Ok c.in_ok-files.files) c.deref-2.ensures.value c.deref-3.ensures.value c.in_ok-files.ensures in
    finds_as _ _ c.args.bench.now c.args.line.now c.from_residual-in_err-replace.result replies.Memory c.from_residual-in_err-replace.ensures.1
    (keeps_asked c.files_that_are_there.ensures _ _ c.args.bench.now c.args.line.now c.in_ok-pairs.pairs.items c.in_ok-targets.targets.items names (asks_all _ _ _ read.asks))
    (memory_early _ _ c.args.bench.now c.args.line.now)

pub returns : goal.returns
returns g c =
    let names : NamesBuses c.args.bench.now.buses c.args.line.now c.in_ok-pairs.pairs.items c.in_ok-targets.targets.items = record {
      load = c.in_ok-pairs.ensures;
      found = targets_at c.items.result.now c.args.bench.now.buses c.deref.result.now c.in_ok-pairs.pairs.items (Ok c.in_ok-targets.targets) c.items.ensures c.deref.ensures.value c.in_ok-targets.ensures;
    } in
    let read = files_at _ _ c.deref-2.result.now c.in_ok-pairs.pairs.items c.deref-3.result.now c.in_ok-targets.targets.items (Ok c.in_ok-files.files) c.deref-2.ensures.value c.deref-3.ensures.value c.in_ok-files.ensures in
    let judged = changes_at c.deref-4.result.now c.in_ok-targets.targets.items c.deref-5.result.now c.in_ok-files.files.items (Ok c.in_ok-changes.changes) c.deref-4.ensures.value c.deref-5.ensures.value c.in_ok-changes.ensures in
    record {
      asks = keeps_asked c.files_that_are_there.ensures _ _ c.args.bench.now c.args.line.now c.in_ok-pairs.pairs.items c.in_ok-targets.targets.items names (asks_all _ _ _ read.asks);
      answer = (
        is_next _ c.args.bench.now c.args.line.now c.in_ok-pairs.pairs.items c.in_ok-targets.targets.items c.in_ok-files.files.items c.in_ok-changes.changes.items c.in_ok-replace.field-0 names read.count read.are_files judged c.in_ok-replace.ensures.after,
        c.in_ok-replace.ensures.valid c.requires.valid,
      );
    }
