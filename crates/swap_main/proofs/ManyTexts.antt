-- Where a rule gives each answer, one text is written of several swaps.
use Rattle.std.proofs.Common.{◌≡◌, ℕ, Bool, List, Result, Ok, Option, None, sym, ap, ◌∙◌, subst}
use Rattle.swap_digraph.specs.declared.deal.Deal.{Deal}
use Rattle.ledger_core.specs.declared.entry.Call.{Call}
use Rattle.ledger_core.specs.Book.{Histories}
use Rattle.command_input.specs.declared.refusal.Refusal.{Refusal}
use Rattle.command_input.specs.Written.{Written}
use Rattle.swap_run.specs.Asked.{Answers, StrategyRule}
use Rattle.swap_many.specs.Kept.{Kept}
use Rattle.swap_many.specs.declared.many_event.ManyEvent.{ManyEvent}
use Rattle.swap_many.specs.declared.place.Place.{Place}
use Rattle.many_lines.specs.Places.{job_of_swap}
use Rattle.many_lines.specs.Setup.{setup_with_answers}
use Rattle.swap_commands.specs.Many.{Headed, events_told, many_state, many_written, opened_places}
use Rattle.swap_commands.specs.Output.{AreGiven}
use Rattle.swap_commands.specs.Promised.{IsManyRun}
use Rattle.swap_main.specs.KnownStrategies.{by_rule}
use Rattle.swap_main.proofs.ManyDecided.{rule_decides}

-- A rule of names.
abbrev NameRule : Type 0
NameRule = List ℕ → Deal → ℕ → ℕ → Histories → Option (ℕ × Call)

-- as one of what is asked
abbrev of_question : NameRule → StrategyRule
of_question rule d q = rule q.strategy d q.party q.turn q.known

-- the rule gives each answer
abbrev AreByRule : NameRule → (ℕ → Answers) → Headed → List ManyEvent → List (List Place) → Type 0
AreByRule rule g h events places =
    (s : ℕ) → AreGiven (by_rule rule) (job_of_swap h.many.jobs s).deal (g s) ((many_state g h.many places h.finish events).swaps s).asked

module _ (rule : NameRule) (g other : ℕ → Answers) where
  one_state : (h : Headed) (events : List ManyEvent) (places : List (List Place)) → AreByRule rule g h events places → AreByRule rule other h events places
      → many_state other h.many places h.finish events ≡ many_state g h.many places h.finish events
  one_state h events places k l =
      rule_decides (of_question rule) (setup_with_answers (λ s n. None) h.many places) g other h.finish events
      (λ s i q lo hi is. k s i q hi is) (λ s i q lo hi is. l s i q hi is)

  module _ (has : List ℕ → Bool) (input : List ℕ) (one two : Written) (p : IsManyRun has (by_rule rule) g input one)
      (q : IsManyRun has (by_rule rule) other input two) where
    one_head : q.head ≡ p.head
    one_head = let e : ◌≡◌ {A = Result Headed Refusal} (Ok q.head) (Ok p.head) = sym q.is_headed ∙ p.is_headed in cc e

    same_events : q.events ≡ p.events
    same_events =
        let e : ◌≡◌ {A = Result (List ManyEvent) Refusal} (Ok q.events) (Ok p.events)
        = sym q.are_told ∙ (ap (λ (h : Headed). events_told h.many 0 h.lines) one_head ∙ p.are_told) in
        cc e

    same_places : q.places ≡ p.places
    same_places =
        let e : ◌≡◌ {A = Result (List (List Place)) Refusal} (Ok q.places) (Ok p.places)
        = sym q.are_placed ∙ (ap (λ (h : Headed). opened_places h.many) one_head ∙ p.are_placed) in
        cc e

    both_by_rule : AreByRule rule other p.head p.events p.places
    both_by_rule =
        subst (λ (h : Headed). AreByRule rule other h p.events p.places) one_head
        (subst (λ (es : List ManyEvent). AreByRule rule other q.head es p.places) same_events
        (subst (λ (ps : List (List Place)). AreByRule rule other q.head q.events ps) same_places q.given))

    pub one_text : one ≡ two
    one_text =
        p.shown
        ∙ (ap (λ (z : Kept). many_written p.head.many z) (sym (one_state p.head p.events p.places p.given both_by_rule))
        ∙ (sym (ap (λ (h : Headed). many_written h.many (many_state other h.many p.places h.finish p.events)) one_head)
        ∙ (sym (ap (λ (es : List ManyEvent). many_written q.head.many (many_state other q.head.many p.places q.head.finish es)) same_events)
        ∙ (sym (ap (λ (ps : List (List Place)). many_written q.head.many (many_state other q.head.many ps q.head.finish q.events)) same_places)
        ∙ sym q.shown))))
