-- The names of a database that a reader makes of a text: words of the text.
use Rattle.std.specs.Prelude.{ℕ, All, List}
use Rattle.sig_text.specs.Lexemes.{IsWord}
use Rattle.bench_model.specs.Rules.{IsName}
use Rattle.bench_model.specs.declared.database.Signal.{Signal}
use Rattle.bench_model.specs.declared.database.Message.{Message}
use Rattle.bench_model.specs.declared.database.Database.{Database}

-- a letter or `_`, then letters, digits and `_`, 1 to 128 of them
pub record IsWordName (name : List ℕ) : Type 0 where
  pub word : IsWord name
  pub size : IsName name

-- the names of the message and of its signals are such words
pub record HasWordNames (m : Message) : Type 0 where
  pub message : IsWordName m.name
  pub signals : All (λ (s : Signal). IsWordName s.name) m.signals

abbrev pub HasNames : Database → Type 0
HasNames d = All HasWordNames d.messages
