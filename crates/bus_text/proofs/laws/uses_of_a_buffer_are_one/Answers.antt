use Rattle.bus_text.proofs.BufferLaws.{buffers_then, buffers_nothing, buffers_flushed}
use Rattle.bus_text.proofs.laws.uses_of_a_buffer_are_one.Goals as goal

pub returns-clause-joined : goal.returns-clause-joined
returns-clause-joined c before mid now first second f s = buffers_then f s

pub returns-clause-unused : goal.returns-clause-unused
returns-clause-unused c = buffers_nothing

pub returns-clause-written : goal.returns-clause-written
returns-clause-written c before now given b was is = buffers_flushed b was is
