-- What a party that follows a script or a strategy is shown in a race, and what it calls: one view
-- and one answer a round.
use Rattle.std.specs.Prelude.{◌≡◌, ℕ, zero, suc, ◌+◌, ◌*◌, ◌<◌, ◌≤◌, true, List, [], ◌++◌, length, take, Option}
use Rattle.swap_digraph.specs.declared.deal.Deal.{Deal}
use Rattle.ledger_core.specs.declared.entry.Call.{Call}
use Rattle.ledger_core.specs.History.{height}
use Rattle.ledger_core.specs.Book.{Histories, history}
use Rattle.swap_job.specs.declared.moves.Move.{Move}
use Rattle.swap_job.specs.declared.job.Role.{Role}
use Rattle.swap_job.specs.declared.job.Role.TheVariants.{Conforming, Manual, Script, Strategy}
use Rattle.swap_run.specs.Script.{next_call, moves_left}
use Rattle.swap_run.specs.View.{IsView, MayAnswer}
use Rattle.swap_job.specs.Fitting.{is_near}
use Rattle.swap_rules.specs.Machine.{Begins}
use Rattle.swap_run.specs.Run.{Cast, State, party_plan, party_role}
use Rattle.swap_world.specs.Gone.{MayGive}
use Rattle.party_threads.specs.Played.{sender_calls, arc_answer, IsPlanAnswer}

-- of the answers to the first r views, those that stand on arc a
abbrev pub arc_answers : ℕ → (ℕ → Option (ℕ × Call)) → ℕ → List Call
arc_answers a answers zero = []
arc_answers a answers (suc r) = arc_answers a answers r ++ arc_answer a (answers r)

-- the calls that are made of them: a ledger takes 32 of one party
abbrev pub made_calls : ℕ → (ℕ → Option (ℕ × Call)) → ℕ → List Call
made_calls a answers r = take 32 (arc_answers a answers r)

-- the moves that are left of a script after the first r views
abbrev pub moves_after_views : (ℕ → Histories) → List Move → ℕ → List Move
moves_after_views views moves zero = moves
moves_after_views views moves (suc r) = moves_left (views r) (moves_after_views views moves r)

-- One view a round. Each view begins with the view of the round before and has the height at which
-- its round began. Of the party's own calls it shows just those made for earlier views. The party's
-- calls in the book are the answers to these views. An answer is no call, or a call that fits and
-- stands on an arc that touches the party. That a view shows all that stood as its round began is
-- said of the rounds (`Race.IsRound`).
pub record AreRoundViews (d : Deal) (ticks rounds : ℕ) (b : Histories) (v : ℕ) (views : ℕ → Histories) (answers : ℕ → Option (ℕ × Call)) : Type 0 where
  pub shown : (r : ℕ) → r < rounds → IsView d v (views r)
  pub begins : (r a : ℕ) → r < rounds → Begins (history (views r) a) (history b a)
  pub high : (r a : ℕ) → r < rounds → a < length d.graph.arcs → is_near d v a ≡ true → r * ticks ≤ height (history (views r) a)
  pub grows : (r a : ℕ) → r + 1 < rounds → Begins (history (views r) a) (history (views (r + 1)) a)
  pub own : (r a : ℕ) → r < rounds → a < length d.graph.arcs → sender_calls v (history (views r) a) ≡ made_calls a answers r
  pub may : (r : ℕ) → r < rounds → MayAnswer d v (answers r)
  pub calls : (a : ℕ) → a < length d.graph.arcs → sender_calls v (history b a) ≡ made_calls a answers rounds

-- each view is answered once: by the script from its first move, or by the strategy
abbrev pub AreAnswered : MayGive → Cast → ℕ → ℕ → (ℕ → Histories) → (ℕ → Option (ℕ × Call)) → Role → Type 0
AreAnswered gives c rounds v views answers (Script moves) = (r : ℕ) → r < rounds → answers r ≡ next_call c.deal c.seeds (views r) (moves_after_views views moves r)
AreAnswered gives c rounds v views answers (Strategy name) = (r : ℕ) → r < rounds → gives name c.deal v r (views r) (answers r)
AreAnswered gives c rounds v views answers Conforming = Unit {0}
AreAnswered gives c rounds v views answers Manual = Unit {0}

-- All calls of a party are the answers to its round views.
pub record PlaysByViews (gives : MayGive) (c : Cast) (ticks rounds : ℕ) (b : Histories) (v : ℕ) : Type 0 where
  pub views : ℕ → Histories
  pub answers : ℕ → Option (ℕ × Call)
  pub are : AreRoundViews c.deal ticks rounds b v views answers
  pub answered : AreAnswered gives c rounds v views answers (party_role c v)

-- One round.

-- The party was shown what stood as the round began at least, and of its own calls no others; it
-- made the call that is the answer, if any, which stands on an arc that touches it and fits.
pub record HasPlayedInRound (gives : MayGive) (c : Cast) (s t : State) (v : ℕ) : Type 0 where
  pub view : Histories
  pub answer : Option (ℕ × Call)
  pub shown : IsView c.deal v view
  pub seen : (a : ℕ) → a < length c.deal.graph.arcs → is_near c.deal v a ≡ true → Begins (history s.book a) (history view a)
  pub begins : (a : ℕ) → Begins (history view a) (history t.book a)
  pub own : (a : ℕ) → a < length c.deal.graph.arcs → sender_calls v (history view a) ≡ sender_calls v (history s.book a)
  pub called : (a : ℕ) → a < length c.deal.graph.arcs → sender_calls v (history t.book a) ≡ take 32 (sender_calls v (history s.book a) ++ arc_answer a answer)
  pub answered : IsPlanAnswer gives c.deal c.seeds v view answer (party_plan s v) (party_plan t v) (party_role c v)
  pub may : MayAnswer c.deal v answer
  pub turns : (party_plan t v).turns ≡ (party_plan s v).turns + 1
