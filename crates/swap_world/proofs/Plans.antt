-- What parties do that don't conform, where slots may be swept: those that plan nothing rest, and
-- those that follow a script or a strategy call and know.
use Rattle.std.proofs.Common.{◌≡◌, ℕ, ◌<◌, Bool, true, false, cond, List, [], length, set, slice_index_or, Option, Some, None, refl, sym, subst}
use Rattle.std.proofs.Common.{ap, ◌∙◌, ◌∷◌, ◌++◌, nat_lt, lt-ltb, length-set, set-set}
use Rattle.swap_base.proofs.Lists.{and_both}
use Rattle.std.proofs.lemmas.List.{set-get_or, get_or-set_same}
use Rattle.swap_digraph.specs.declared.deal.Deal.{Deal}
use Rattle.ledger_core.specs.declared.entry.Call.{Call}
use Rattle.ledger_core.specs.declared.entry.Entry.{Entry}
use Rattle.ledger_core.specs.Book.{history}
use Rattle.swap_job.specs.Crafted.{Seeds}
use Rattle.swap_run.specs.Script.{next_call}
use Rattle.swap_run.specs.View.{MayAnswer}
use Rattle.swap_job.specs.declared.moves.Move.{Move}
use Rattle.swap_job.specs.declared.job.Role.{Role}
use Rattle.swap_job.specs.declared.job.Role.TheVariants.{Conforming, Manual, Script, Strategy}
use Rattle.swap_job.specs.declared.event.Event.TheVariants.{Look, Act}
use Rattle.swap_run.specs.Run.{Cast, Plan, State, party_role, party_plan, plan_with_ledger, is_planned, look, next_action, watch, step, answered_call, is_party_answer}
use Rattle.swap_run.specs.Called.{role_call, apply_step}
use Rattle.swap_run.specs.Asked.{Answers, with_answers, is_strategy}
use Rattle.swap_world.specs.Cast.{made_cast}
use Rattle.swap_world.specs.Acting.{landed, taken, seen, turned, asked_once, answer_question}
use Rattle.swap_world.specs.Inside.{strategy_name}
use Rattle.swap_world.specs.On.{told_of_call, event_told}
use Rattle.swap_world.specs.declared.call_outcome.Told.TheVariants.{Nothing}
use Rattle.swap_world.proofs.On.{make_on, take_on, act_on, act_is, told_act}

-- the role is a script
abbrev pub IsScript : Role → Type 0
IsScript role = (moves : List Move) × (role ≡ Script moves)

-- what is planned without a strategy is a script
pub scripted : (role : Role) → is_planned role ≡ true → is_strategy role ≡ false → IsScript role
scripted Conforming e f = absurd (cc e)
scripted Manual e f = absurd (cc e)
scripted (Script moves) e f = (moves, refl)
scripted (Strategy name) e f = absurd (cc f)

-- a role that is a strategy
pub named : (role : Role) → is_strategy role ≡ true → role ≡ Strategy (strategy_name role)
named Conforming e = absurd (cc e)
named Manual e = absurd (cc e)
named (Script moves) e = absurd (cc e)
named (Strategy name) e = refl

-- What a strategy answers.

keep_if : (b : Bool) (x : ℕ × Call) → b ≡ true → ◌≡◌ {A = Option (ℕ × Call)} (cond b (Some x) None) (Some x)
keep_if true x e = refl
keep_if false x e = absurd (cc e)

-- an answer that the party may make is made
pub answer_is : (d : Deal) (v : ℕ) (o : Option (ℕ × Call)) → MayAnswer d v o → answered_call d v o ≡ o
answer_is d v None may = refl
answer_is d v (Some x) may =
    let k = may x refl in
    let low : nat_lt x.0 (length d.graph.arcs) ≡ true = lt-ltb x.0 (length d.graph.arcs) k.arc in
    keep_if (is_party_answer d v x) x (and_both _ _ (and_both _ _ low k.near) k.fits)

-- answers matter for no call
pub take_same : (sw : ℕ → Bool) (c : Cast) (g : Answers) (s : State) (v : ℕ) (o : Option (ℕ × Call))
    → take_on sw (with_answers c g) s v o ≡ take_on sw c s v o
take_same sw c g s v None = refl
take_same sw c g s v (Some x) = refl

-- the plan of a party that has none in the list
abbrev pub absent : Plan
absent = record { known = []; moves = []; turns = 0 }

module _ (d : Deal) (conforming : List Bool) (seeds : Seeds) (roles : List Role) where
  abbrev c : Cast
  c = made_cast d conforming seeds roles

  -- Parties that plan nothing.

  watch_rests : (s : State) (v a : ℕ) → is_planned (party_role c v) ≡ false → watch c s v a ≡ s
  watch_rests s v a r = ap (λ b. record s { plans = cond b (set s.plans v (plan_with_ledger (party_plan s v) a (history s.book a))) s.plans }) r

  as_planned : (sw : ℕ → Bool) (s : State) (v : ℕ) (role : Role) → is_planned role ≡ false → act_on sw c s v role ≡ s
  as_planned sw s v Conforming e = refl
  as_planned sw s v Manual e = refl
  as_planned sw s v (Script moves) e = absurd (cc e)
  as_planned sw s v (Strategy name) e = absurd (cc e)

  pub other_look : (s : State) (v a : ℕ) → slice_index_or conforming v false ≡ false → is_planned (party_role c v) ≡ false → step c s (Look v a) ≡ s
  other_look s v a e r = ap (λ b. cond b (look s v a) (watch c s v a)) e ∙ watch_rests s v a r

  -- which role an act goes by
  by_role : (sw : ℕ → Bool) (g : Answers) (s : State) (v : ℕ) → slice_index_or conforming v false ≡ false
      → apply_step sw (with_answers c g) s (Act v) ≡ act_on sw (with_answers c g) s v (party_role c v)
  by_role sw g s v e =
      act_is sw (with_answers c g) s v
      ∙ ap (λ b. cond b (make_on sw d s v (next_action c s v)) (act_on sw (with_answers c g) s v (party_role c v))) e

  pub other_act : (sw : ℕ → Bool) (s : State) (v : ℕ) → slice_index_or conforming v false ≡ false → is_planned (party_role c v) ≡ false
      → apply_step sw c s (Act v) ≡ s
  other_act sw s v e r = by_role sw (λ k. None) s v e ∙ as_planned sw s v (party_role c v) r

  silent_as : (sw : ℕ → Bool) (s : State) (v : ℕ) (role : Role) → is_planned role ≡ false → told_of_call sw c s (role_call c s v role) ≡ Nothing
  silent_as sw s v Conforming e = refl
  silent_as sw s v Manual e = refl
  silent_as sw s v (Script moves) e = absurd (cc e)
  silent_as sw s v (Strategy name) e = absurd (cc e)

  pub other_told : (sw : ℕ → Bool) (s : State) (v : ℕ) → slice_index_or conforming v false ≡ false → is_planned (party_role c v) ≡ false
      → event_told sw c s (Act v) ≡ Nothing
  other_told sw s v e r = told_act sw c s v (party_role c v) e refl ∙ silent_as sw s v (party_role c v) r

  -- a call changes the histories alone
  pub take_is : (sw : ℕ → Bool) (s : State) (v : ℕ) (o : Option (ℕ × Call)) → is_planned (party_role c v) ≡ false
      → take_on sw c s v o ≡ record s { book = taken sw d v o s.book }
  take_is sw s v None r = refl
  take_is sw s v (Some x) r =
      let h : List Entry = landed (sw x.0) d x.0 v x.1 (history s.book x.0) in
      ap (λ b. record s { book = set s.book x.0 h; plans = cond b (set s.plans v (plan_with_ledger (party_plan s v) x.0 h)) s.plans }) r

  -- Parties that follow a script.

  -- a state in which v plans n
  abbrev pub Plans : State → ℕ → Plan → Type 0
  Plans s v n = (v < length s.plans) × (party_plan s v ≡ n)

  pub planned_look : (s : State) (v a : ℕ) (n : Plan) → slice_index_or conforming v false ≡ false → is_planned (party_role c v) ≡ true → Plans s v n
      → step c s (Look v a) ≡ record s { plans = set s.plans v (plan_with_ledger n a (history s.book a)) }
  planned_look s v a n e r k =
      ap (λ b. cond b (look s v a) (watch c s v a)) e
      ∙ (ap (λ b. record s { plans = cond b (set s.plans v (plan_with_ledger (party_plan s v) a (history s.book a))) s.plans }) r
      ∙ ap (λ (m : Plan). record s { plans = set s.plans v (plan_with_ledger m a (history s.book a)) }) k.1)

  -- a call that v makes is known to it
  pub planned_call : (sw : ℕ → Bool) (s : State) (v : ℕ) (n : Plan) (o : Option (ℕ × Call)) → is_planned (party_role c v) ≡ true → Plans s v n
      → take_on sw c s v o ≡ record s { book = taken sw d v o s.book; plans = set s.plans v (seen sw d v o s.book n) }
  planned_call sw s v n None r k =
      ap (λ (ps : List Plan). record s { plans = ps })
      (sym (ap (λ (m : Plan). set s.plans v m) (sym k.1) ∙ set-get_or s.plans v absent))
  planned_call sw s v n (Some x) r k =
      let h : List Entry = landed (sw x.0) d x.0 v x.1 (history s.book x.0) in
      ap (λ b. record s { book = set s.book x.0 h; plans = cond b (set s.plans v (plan_with_ledger (party_plan s v) x.0 h)) s.plans }) r
      ∙ ap (λ (m : Plan). record s { book = set s.book x.0 h; plans = set s.plans v (plan_with_ledger m x.0 h) }) k.1

  -- the call that v's script makes next
  abbrev pub due_call : Plan → Option (ℕ × Call)
  due_call n = next_call d seeds n.known n.moves

  pub followed_is : (sw : ℕ → Bool) (s : State) (v : ℕ) (n : Plan) (moves : List Move) → is_planned (party_role c v) ≡ true → Plans s v n
      → act_on sw c s v (Script moves)
      ≡ record s { book = taken sw d v (due_call n) s.book; plans = set s.plans v (seen sw d v (due_call n) s.book (turned n)) }
  followed_is sw s v n moves r k =
      let t : State = record s { plans = set s.plans v (turned n) } in
      let there : v < length t.plans = subst (λ l. v < l) (sym (length-set s.plans v (turned n))) k.0 in
      let now : party_plan t v ≡ turned n = get_or-set_same s.plans v (turned n) absent k.0 in
      ap (λ (m : Plan). take_on sw c (record s { plans = set s.plans v (turned m) }) v (due_call m)) k.1
      ∙ (planned_call sw t v (turned n) (due_call n) r (there, now)
      ∙ ap (λ (ps : List Plan). record s { book = taken sw d v (due_call n) s.book; plans = ps })
      (set-set s.plans v (turned n) (seen sw d v (due_call n) s.book (turned n))))

  pub planned_act : (sw : ℕ → Bool) (s : State) (v : ℕ) (n : Plan) → slice_index_or conforming v false ≡ false → IsScript (party_role c v) → Plans s v n
      → apply_step sw c s (Act v) ≡ record s { book = taken sw d v (due_call n) s.book; plans = set s.plans v (seen sw d v (due_call n) s.book (turned n)) }
  planned_act sw s v n e i k =
      by_role sw (λ k. None) s v e
      ∙ (ap (λ (role : Role). act_on sw c s v role) i.1 ∙ followed_is sw s v n i.0 (ap is_planned i.1) k)

  -- Parties that follow a strategy.

  -- the state after v has asked
  abbrev asked_with : State → ℕ → List ℕ → Plan → State
  asked_with s v name n = record {
    book = s.book;
    notes = s.notes;
    plans = set s.plans v (asked_once n);
    asked = s.asked ++ answer_question name v n ∷ [];
  }

  -- the state after v has asked and made the call that was answered
  abbrev pub answered_with : (ℕ → Bool) → State → ℕ → List ℕ → Plan → Option (ℕ × Call) → State
  answered_with sw s v name n o = record {
    book = taken sw d v o s.book;
    notes = s.notes;
    plans = set s.plans v (seen sw d v o s.book (asked_once n));
    asked = s.asked ++ answer_question name v n ∷ [];
  }

  asked_is : (sw : ℕ → Bool) (g : Answers) (s : State) (v : ℕ) (n : Plan) (name : List ℕ) (o : Option (ℕ × Call)) → is_planned (party_role c v) ≡ true
      → Plans s v n → g (length s.asked) ≡ o → MayAnswer d v o → act_on sw (with_answers c g) s v (Strategy name) ≡ answered_with sw s v name n o
  asked_is sw g s v n name o r k at may =
      let t : State = asked_with s v name n in
      let there : v < length t.plans = subst (λ l. v < l) (sym (length-set s.plans v (asked_once n))) k.0 in
      let now : party_plan t v ≡ asked_once n = get_or-set_same s.plans v (asked_once n) absent k.0 in
      ap (λ (m : Plan). take_on sw (with_answers c g) (asked_with s v name m) v (answered_call d v (g (length s.asked)))) k.1
      ∙ (ap (λ (x : Option (ℕ × Call)). take_on sw (with_answers c g) t v (answered_call d v x)) at
      ∙ (ap (λ (x : Option (ℕ × Call)). take_on sw (with_answers c g) t v x) (answer_is d v o may)
      ∙ (take_same sw c g t v o ∙ (planned_call sw t v (asked_once n) o r (there, now)
      ∙ ap (λ (ps : List Plan). record t { book = taken sw d v o s.book; plans = ps })
      (set-set s.plans v (asked_once n) (seen sw d v o s.book (asked_once n)))))))

  pub planned_ask : (sw : ℕ → Bool) (g : Answers) (s : State) (v : ℕ) (n : Plan) (name : List ℕ) (o : Option (ℕ × Call))
      → slice_index_or conforming v false ≡ false → is_planned (party_role c v) ≡ true → party_role c v ≡ Strategy name → Plans s v n
      → g (length s.asked) ≡ o → MayAnswer d v o → apply_step sw (with_answers c g) s (Act v) ≡ answered_with sw s v name n o
  planned_ask sw g s v n name o e r i k at may =
      by_role sw g s v e ∙ (ap (λ (role : Role). act_on sw (with_answers c g) s v role) i ∙ asked_is sw g s v n name o r k at may)
