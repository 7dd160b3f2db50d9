use Rattle.std.proofs.Common.{◌≡◌, ◌∙◌, sym, ap, subst, List, ℕ, Some, zero, suc, length, ◌<◌, get_or, refl, ◌∷◌, [], arith}
use Rattle.std.specs.Prelude.{slice_get}
use Rattle.multiplex_tree.specs.declared.fault.MuxFault.{MuxFault}
use Rattle.multiplex_tree.specs.Fault.{IsFault}
use Rattle.dbc_grammar.specs.declared.statement.SignalForm.{SignalForm}
use Rattle.dbc_grammar.proofs.read.mux_fault.Goals as goal

-- what is at a place is what is read there
got : (forms : List SignalForm) (i : ℕ) (d : SignalForm) → i < length forms → slice_get forms i ≡ Some (get_or forms i d)
got [] i d below = absurd (omega arith)
got (f ∷ forms) zero d below = refl
got (f ∷ forms) (suc i) d below = got forms i d (omega arith)

pub returns-in-Ok : goal.returns-in-Ok
returns-in-Ok c = λ marks links f. record {
  signal = c.in-At.signal;
  form = c.in-Some.form.now;
  form_is = ap (λ (fs : List SignalForm). slice_get fs c.in-At.signal) (sym c.items.ensures)
      ∙ got c.items.result.now c.in-At.signal c.in-Some.form.now (omega (arith, c.in-Some.ensures.lookup.3.0)) ∙ ap Some (sym c.in-Some.ensures.lookup.1);
  fault = subst (λ (x : MuxFault). IsFault marks links x) c.in-At.is f;
  id_is = c.fault_id.ensures;
  name_is = c.in-Ok.ensures.ok ∙ c.token_text.ensures;
}
