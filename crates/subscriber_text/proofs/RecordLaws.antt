-- The lines of a record that is wanted are its text.
use Rattle.std.proofs.Common.{◌≡◌, ℕ, List, ◌++◌, cond, Option, Some, None, length, refl, sym, ap, ◌∙◌, append_assoc}
use Rattle.std.specs.Prelude.{◌&&◌, nat_lt}
use Rattle.std.proofs.lemmas.Option.{cond_some}
use Rattle.bench_model.specs.declared.reading.Reading.{Reading}
use Rattle.bench_model.specs.declared.reading.SignalValue.{SignalValue}
use Rattle.bench_model.specs.declared.reading.Item.TheVariants as item
use Rattle.subscriber_text.specs.Wants.{WantList, wants_record}
use Rattle.subscriber_text.specs.ItemText.{line_of, record_words, signal_lines, message_of, signals_of, bus_name, wants_reading, record_text, item_text}

pub reading_written : (w : WantList) (r : Reading) (old line now bus : List ℕ) (message : Option (List ℕ)) (signals : List SignalValue)
    → Some bus ≡ cond (nat_lt r.bus (length w.names) && wants_record w r.bus message) (Some (bus_name w r.bus)) None → message ≡ message_of r.body → signals ≡ signals_of r.body
    → line ≡ old ++ line_of (record_words bus r r.body) → now ≡ line ++ signal_lines w r.bus message signals → now ≡ old ++ item_text w (item.Reading r)
reading_written w r old line now bus message signals named m s first rest =
    let named' : Some bus ≡ cond (wants_reading w r) (Some (bus_name w r.bus)) None = rw m at named in
    let chosen = cond_some (wants_reading w r) (bus_name w r.bus) bus (sym named') in
    let text : record_text w bus r ≡ record_text w (bus_name w r.bus) r = ap (λ (name : List ℕ). record_text w name r) (sym chosen.1) in
    let whole : now ≡ old ++ record_text w bus r =
    rest ∙ ap (λ xs. xs ++ signal_lines w r.bus message signals) first ∙ append_assoc old (line_of (record_words bus r r.body)) (signal_lines w r.bus message signals)
    ∙ ap (λ (o : Option (List ℕ)). old ++ (line_of (record_words bus r r.body) ++ signal_lines w r.bus o signals)) m
    ∙ ap (λ (ss : List SignalValue). old ++ (line_of (record_words bus r r.body) ++ signal_lines w r.bus (message_of r.body) ss)) s in
    whole ∙ ap (λ xs. old ++ xs) (text ∙ rw chosen.0 refl)
