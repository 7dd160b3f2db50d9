use Rattle.std.proofs.Common.{◌++◌, take, rules}
use Rattle.std.proofs.lemmas.Result.{err_from_is_err_and}
use Rattle.port_io.proofs.RefusalLaws.{opens_more, refused_whole, long_exactly}
use Rattle.port_io.proofs.whole.read_whole.Goals as goal

pub returns-in_err-keep_chunk-clause-taken : goal.returns-in_err-keep_chunk-clause-taken
returns-in_err-keep_chunk-clause-taken g c not_open =
    let is_err = err_from_is_err_and c.from_residual.result c.from_residual.ensures.1 in (
      c.loop-count.bytes.items ++ take c.in-Ok.count c.more.new.buf,
      opens_more _ _ _ _ c.loop-count.bytes.items (take c.in-Ok.count c.more.new.buf) c.loop-count.invariant.parted c.in-Ok.ensures.left,
      refused_whole c.args.limit _ c.in_err-keep_chunk.field-0.0 _ _ is_err.1 is_err.2 (long_exactly c.args.limit _ c.loop-count.bytes.items (take c.in-Ok.count c.more.new.buf) c.in_err-keep_chunk.field-0.0 c.keep_chunk.result (search rules) c.in_err-keep_chunk.was c.keep_chunk.ensures.long),
    )
