-- What `read_whole` answers where a chunk was not kept.
use Rattle.port_io.specs.declared.whole.Overrun.{Overrun}
use Rattle.port_io.specs.declared.whole.Overrun.TheVariants as overrun
use Rattle.port_io.specs.declared.whole.WholeRefused.{WholeRefused}
use Rattle.port_io.specs.declared.whole.WholeRefused.TheVariants as whole

-- as a refusal of `read_whole`
abbrev pub whole_refused_of : Overrun → WholeRefused
whole_refused_of overrun.Long = whole.Long
whole_refused_of overrun.Memory = whole.Memory
