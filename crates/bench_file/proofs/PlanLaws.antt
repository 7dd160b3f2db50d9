-- A file has one plan or one faulty line, and never both.
use Rattle.std.proofs.Common.{◌≡◌, ◌⊎◌, ℕ, ◌*◌, ◌<◌, ◌≤◌, List, [], ◌∷◌, length, refl, sym, ap, ◌∙◌, arith, inl, inr}
use Rattle.std.proofs.lemmas.Bool.{cases_lt}
use Rattle.decisions.specs.Decisions.{Decides}
use Rattle.bench_file.specs.declared.plan.Plan.{Plan}
use Rattle.bench_file.specs.declared.plan.PlannedBus.{PlannedBus}
use Rattle.bench_file.specs.declared.setting.Setting.{Setting}
use Rattle.bench_file.specs.declared.setting.Setting.TheVariants as settings
use Rattle.bench_file.specs.LineMeaning.{LineMeaning}
use Rattle.bench_file.specs.PlanOf.{longest_file, most_items, meanings_of, buses_of, number_of, planned, KeepRules, IsFirstFault, IsPlan, IsFault, too_long, at_line, no_bus, many_items}
use Rattle.bench_file.proofs.FaultLaws.{rules_or_fault, never_both, only_fault}

-- the plan of lines, whatever they are
abbrev pub plan_of : List LineMeaning → Plan
plan_of lines = record {
  buses = buses_of lines;
  regions = number_of settings.Regions lines;
  words = number_of settings.Words lines;
  ring = number_of settings.Ring lines;
  sessions = number_of settings.Sessions lines;
  desk = number_of settings.Desk lines;
  versions = number_of settings.Versions lines;
}

planned_of : (s : Setting) (lines : List LineMeaning) → planned s (plan_of lines) ≡ number_of s lines
planned_of settings.Regions lines = refl
planned_of settings.Words lines = refl
planned_of settings.Ring lines = refl
planned_of settings.Sessions lines = refl
planned_of settings.Desk lines = refl
planned_of settings.Versions lines = refl

some_bus : (buses : List PlannedBus) → (buses ≡ []) ⊎ (1 ≤ length buses)
some_bus [] = inl refl
some_bus (b ∷ bs) = inr (omega arith)

pub some_answer : (bytes : List ℕ) → ((plan : Plan) × IsPlan bytes plan) ⊎ ((n : ℕ) × IsFault bytes n)
some_answer bytes =
    let lines : List LineMeaning = meanings_of bytes in
    elim (cases_lt longest_file (length bytes)) [
      | inl long ↦ inr (0, too_long refl long)
      | inr short ↦ elim (rules_or_fault lines) [
        | inr fault ↦ inr (fault.0, at_line short fault.1)
        | inl rules ↦ elim (some_bus (buses_of lines)) [
          | inl none ↦ inr (0, no_bus refl short rules none)
          | inr some ↦ elim (cases_lt most_items (number_of settings.Ring lines * length (buses_of lines))) [
            | inl many ↦ inr (0, many_items refl short rules many)
            | inr few ↦ inl (plan_of lines, record { short = short; rules = rules; buses = refl; numbers = λ s. planned_of s lines; some_bus = some; items = few })
          ]
        ]
      ]
    ]

same_plan : (p q : Plan) → p.buses ≡ q.buses → p.regions ≡ q.regions → p.words ≡ q.words → p.ring ≡ q.ring → p.sessions ≡ q.sessions → p.desk ≡ q.desk → p.versions ≡ q.versions → p ≡ q
same_plan p q a b c d e f g =
    ap (λ x. let plan : Plan = record p { buses = x } in plan) a
    ∙ ap (λ x. let plan : Plan = record p { buses = q.buses; regions = x } in plan) b
    ∙ ap (λ x. let plan : Plan = record p { buses = q.buses; regions = q.regions; words = x } in plan) c
    ∙ ap (λ x. let plan : Plan = record p { buses = q.buses; regions = q.regions; words = q.words; ring = x } in plan) d
    ∙ ap (λ x. let plan : Plan = record q { sessions = x; desk = p.desk; versions = p.versions } in plan) e
    ∙ ap (λ x. let plan : Plan = record q { desk = x; versions = p.versions } in plan) f
    ∙ ap (λ x. let plan : Plan = record q { versions = x } in plan) g

pub one_plan : (bytes : List ℕ) (p q : Plan) → IsPlan bytes p → IsPlan bytes q → p ≡ q
one_plan bytes p q a b =
    same_plan p q (a.buses ∙ sym b.buses) (a.numbers settings.Regions ∙ sym (b.numbers settings.Regions)) (a.numbers settings.Words ∙ sym (b.numbers settings.Words))
    (a.numbers settings.Ring ∙ sym (b.numbers settings.Ring)) (a.numbers settings.Sessions ∙ sym (b.numbers settings.Sessions))
    (a.numbers settings.Desk ∙ sym (b.numbers settings.Desk)) (a.numbers settings.Versions ∙ sym (b.numbers settings.Versions))

-- a fault of a line, or of the file as a whole
fault_kind : (bytes : List ℕ) (n : ℕ) → IsFault bytes n → (IsFirstFault (meanings_of bytes) n × (length bytes ≤ longest_file)) ⊎ ((n ≡ 0) × ((longest_file < length bytes) ⊎ KeepRules (meanings_of bytes)))
fault_kind bytes n (too_long e long) = inr (e, inl long)
fault_kind bytes n (at_line short fault) = inl (fault, short)
fault_kind bytes n (no_bus e short rules none) = inr (e, inr rules)
fault_kind bytes n (many_items e short rules many) = inr (e, inr rules)

line_or_whole : (bytes : List ℕ) (n : ℕ) → IsFirstFault (meanings_of bytes) n → length bytes ≤ longest_file → (longest_file < length bytes) ⊎ KeepRules (meanings_of bytes) → ⊥
line_or_whole bytes n fault short (inl long) = absurd (omega arith)
line_or_whole bytes n fault short (inr rules) = never_both (meanings_of bytes) n rules fault

pub one_fault : (bytes : List ℕ) (m n : ℕ) → IsFault bytes m → IsFault bytes n → m ≡ n
one_fault bytes m n f g =
    elim (fault_kind bytes m f) [
      | inl a ↦ elim (fault_kind bytes n g) [
        | inl b ↦ only_fault (meanings_of bytes) m n a.0 b.0
        | inr b ↦ absurd (line_or_whole bytes m a.0 a.1 b.1)
      ]
      | inr a ↦ elim (fault_kind bytes n g) [
        | inl b ↦ absurd (line_or_whole bytes n b.0 b.1 a.1)
        | inr b ↦ a.0 ∙ sym b.0
      ]
    ]

ring_of : (bytes : List ℕ) (plan : Plan) → IsPlan bytes plan → number_of settings.Ring (meanings_of bytes) * length (buses_of (meanings_of bytes)) ≤ most_items
ring_of bytes plan p = rw (← p.numbers settings.Ring, ← p.buses) p.items

pub plan_or_fault : (bytes : List ℕ) (plan : Plan) (n : ℕ) → IsPlan bytes plan → IsFault bytes n → ⊥
plan_or_fault bytes plan n p (too_long e long) = absurd (omega (arith, p.short))
plan_or_fault bytes plan n p (at_line short fault) = never_both (meanings_of bytes) n p.rules fault
plan_or_fault bytes plan n p (no_bus e short rules none) =
    let some : 1 ≤ length (buses_of (meanings_of bytes)) = rw (← p.buses) p.some_bus in
    absurd (omega (arith, rw none at some))
plan_or_fault bytes plan n p (many_items e short rules many) = absurd (omega (arith, ring_of bytes plan p))

pub one_answer : Decides IsPlan IsFault
one_answer = record { some = some_answer; one = one_plan; only = one_fault; apart = plan_or_fault }
