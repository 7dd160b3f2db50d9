-- Words and commands as their bytes.
use Rattle.std.specs.Prelude.{ℕ, List, map, Option, string_bytes}
use Rattle.std.specs.Option.{option_map}
use Rattle.std.specs.Borrow.{Bor}
use Rattle.std.specs.declared.alloc.Global.{Global}
use Rattle.std.specs.declared.string.String.{String}
use Rattle.tool_words.specs.declared.command.Command.{Command}
use Rattle.tool_words.specs.declared.command.Command.TheVariants as commands
use Rattle.tool_words.specs.Commands.{ToolCommand, Decodes, Checks, Mills}

abbrev pub words_of : List (String Global) → List (List ℕ)
words_of words = map (λ word. string_bytes word) words

abbrev pub word_view : Option (Bor (List ℕ)) → Option (List ℕ)
word_view word = option_map (λ w. w.now) word

abbrev pub view_of : Command → ToolCommand
view_of (commands.Decode bench) = Decodes bench.now
view_of (commands.Check file) = Checks file.now
view_of (commands.Mill frames) = Mills frames

abbrev pub command_view : Option Command → Option ToolCommand
command_view command = option_map view_of command
