-- The refusals of the stages of a command as its replies.
use Rattle.std.specs.Prelude.{ℕ}
use Rattle.image_compiler.specs.declared.refused.CompileRefused.{CompileRefused}
use Rattle.image_compiler.specs.declared.refused.CompileRefused.TheVariants as images
use Rattle.region_store.specs.declared.loader.PublishRefused.{PublishRefused}
use Rattle.region_store.specs.declared.loader.PublishRefused.TheVariants as stores
use Rattle.bench_loader.specs.declared.fault.BenchRefused.{BenchRefused}
use Rattle.bench_loader.specs.declared.fault.BenchRefused.TheVariants as benches
use Rattle.bench_loader.specs.declared.load_line.LineRefused.{LineRefused}
use Rattle.bench_loader.specs.declared.load_line.LineRefused.TheVariants as lines
use Rattle.bench_loader.specs.declared.targets.BusRefused.{BusRefused}
use Rattle.bench_loader.specs.declared.targets.BusRefused.TheVariants as buses
use Rattle.bench_loader.specs.declared.load_files.Unread.{Unread}
use Rattle.bench_loader.specs.declared.load_files.Unread.TheVariants as files
use Rattle.bench_loader.specs.declared.reply.Reply.{Reply}
use Rattle.bench_loader.specs.declared.reply.Reply.TheVariants as replies

abbrev pub reply_of_line : LineRefused → Reply
reply_of_line lines.Form = replies.Words
reply_of_line lines.Memory = replies.Memory

abbrev pub reply_of_bus : BusRefused → Reply
reply_of_bus (buses.Unknown place name) = replies.UnknownBus place name
reply_of_bus buses.Memory = replies.Memory

abbrev pub reply_of_file : Unread → Reply
reply_of_file (files.Open bus) = replies.OpenFault bus
reply_of_file (files.Read bus) = replies.ReadFault bus
reply_of_file files.Memory = replies.Memory

abbrev pub reply_of_bench : BenchRefused → Reply
reply_of_bench (benches.Refused bus fault) = replies.Refused bus fault
reply_of_bench benches.Memory = replies.Memory

-- an image that is larger than this room
abbrev pub reply_of_image : ℕ → CompileRefused → Reply
reply_of_image room (images.TooLarge need) = replies.TooLarge need room
reply_of_image room images.Memory = replies.Memory

abbrev pub reply_of_store : PublishRefused → Reply
reply_of_store stores.VersionsSpent = replies.VersionsSpent
reply_of_store (stores.Busy holders) = replies.Busy holders
