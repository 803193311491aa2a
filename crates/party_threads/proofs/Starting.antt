-- How a race begins.
use Rattle.std.proofs.Common.{zero-add, ◌≡◌, ℕ, ◌+◌, ◌<◌, List, [], ◌∷◌, ◌++◌, length, map, replicate, slice_get, get_or, slice_index_or}
use Rattle.std.proofs.Common.{Option, Some, None, refl, sym, ap, ◌∙◌, subst, arith}
use Rattle.std.specs.List.{range_with_len}
use Rattle.std.proofs.lemmas.List.{length-map, get_or-map, length-replicate, get_or-replicate, same_lists}
use Rattle.std.proofs.lemmas.List.FromFn.{get_or-map-range_with_len, length-map-range_with_len}
use Rattle.swap_digraph.specs.declared.deal.Deal.{Deal}
use Rattle.ledger_core.specs.Value.{LedgerState}
use Rattle.ledger_core.specs.Book.{Histories, history}
use Rattle.swap_job.specs.Roles.{job_role}
use Rattle.swap_job.specs.declared.job.Job.{Job}
use Rattle.swap_job.specs.declared.job.Role.TheVariants as kinds
use Rattle.swap_rules.specs.Accepted.{IsAccepted}
use Rattle.swap_rules.specs.Machine.{Knows}
use Rattle.swap_rules.proofs.Conducting.{knows_all}
use Rattle.swap_run.specs.Run.{Notes, Plan, State, no_notes, no_histories, first_plan, start}
use Rattle.swap_run.specs.Laws.{IsReadyCast, IsGood}
use Rattle.swap_run.proofs.Good.{start_is_good, replicated}
use Rattle.swap_world.specs.Acting.{histories}
use Rattle.swap_world.specs.Cast.{job_cast}
use Rattle.swap_world.specs.Inside.{new_ledger, new_ledgers}
use Rattle.swap_world.specs.Actors.{job_actor, AllFit, ConformingHaveSeeds, HaveRoles}
use Rattle.swap_world.specs.Players.{Racer}
use Rattle.swap_world.specs.declared.player.Player.TheVariants.{Conforming, Planned, Manual}
use Rattle.swap_world.proofs.Ledgers.{none_yet}
use Rattle.swap_world.proofs.Team.{IsOwn, is_own, is_ready, role_each}
use Rattle.party_threads.specs.declared.turn.Actor.{Actor}
use Rattle.party_threads.specs.declared.turn.Actor.TheVariants.{Party, Clock}
use Rattle.party_threads.specs.declared.turn.Turn.{Turn}
use Rattle.party_threads.specs.Turns.{numbered_actor, held_passes, held_clocks, turn_actor, arc_ledger, IsHome}
use Rattle.party_threads.specs.Standing.{race_book, turn_actor_notes, turn_notes, race_plan, turn_plan, race_state, IsJobActor, KnowsOwn, StandsHome}
use Rattle.party_threads.specs.FirstTurns.{IsNewTurn, AreNew}
use Rattle.swap_digraph.proofs.Ranges.{map_more}
use Rattle.party_threads.proofs.Turning.{get_there}
use Rattle.party_threads.proofs.Placing.{map_append}

some_histories : (ls : List LedgerState) → race_book (map (λ l. Some l) ls) ≡ histories ls
some_histories [] = refl
some_histories (l ∷ ls) = ap (λ hs. l.history ∷ hs) (some_histories ls)

pub one_ledger_more : (d : Deal) (k : ℕ) (ls ls' : List (Option LedgerState)) (l : LedgerState)
    → ls ≡ map (λ l. Some l) (map (new_ledger d) (range_with_len 0 k)) → l ≡ new_ledger d k → ls' ≡ ls ++ Some l ∷ []
    → ls' ≡ map (λ l. Some l) (map (new_ledger d) (range_with_len 0 (k + 1)))
one_ledger_more d k ls ls' l so_far is more =
    let all = map (new_ledger d) (range_with_len 0 k) in
    more ∙ (ap (λ x. ls ++ Some x ∷ []) is ∙ (ap (λ xs. xs ++ Some (new_ledger d k) ∷ []) so_far
    ∙ (sym (map_append (λ (x : LedgerState). Some x) all (new_ledger d k ∷ []))
    ∙ ap (map (λ (x : LedgerState). Some x)) (map_more (new_ledger d) k all (all ++ new_ledger d k ∷ []) refl refl))))

-- What acts for a party.

pub record Acts (job : Job) (v : ℕ) (x : Actor) : Type 0 where
  pub is : IsJobActor job v x
  pub notes : turn_actor_notes job.deal x ≡ no_notes job.deal
  pub plan : race_plan job.deal x ≡ first_plan job.deal (job_role job v)
  pub own : KnowsOwn v x (no_histories job.deal)

acts_as : (job : Job) (v : ℕ) (x : Racer) → IsOwn job v x → Acts job v (Party x)
acts_as job v (Conforming m u) k = record { is = k.is; notes = k.notes; plan = k.plan; own = tt }
acts_as job v Manual k = record { is = k.is; notes = k.notes; plan = k.plan; own = tt }
acts_as job v (Planned n) k = record {
  is = k.is;
  notes = k.notes;
  plan = k.plan;
  own = λ a. subst (λ (m : Plan). Knows v (history m.known a) (history (no_histories job.deal) a)) (sym k.plan)
      (knows_all v (history (no_histories job.deal) a));
}

module _ (job : Job) (ts : List Turn) (accepted : IsAccepted job.deal) (seeds : ConformingHaveSeeds job) (roles : HaveRoles job) (fit : AllFit job)
    (new : AreNew job ts) where
  abbrev d : Deal
  d = job.deal

  abbrev ls : List (Option LedgerState)
  ls = map (λ l. Some l) (new_ledgers d)

  acts_at : (v : ℕ) → v < d.graph.n → Acts job v (Party (job_actor job v))
  acts_at v lv = acts_as job v (job_actor job v) (is_own job v seeds roles fit lv)

  turn_at : (v : ℕ) → v < d.graph.n → (t : Turn) × (slice_get ts v ≡ Some t) × IsNewTurn d (Party (job_actor job v)) t
  turn_at v lv = let n = new.number in let t = get_there ts v (omega (arith, n, lv)) in (t.0, t.1, new.each v t.0 lv t.1)

  clock_turn : (t : Turn) × (slice_get ts d.graph.n ≡ Some t) × IsNewTurn d Clock t
  clock_turn = let n = new.number in let t = get_there ts d.graph.n (omega (arith, n)) in (t.0, t.1, new.clock t.0 t.1)

  actor_is : (v : ℕ) → v < d.graph.n → turn_actor ts v ≡ Party (job_actor job v)
  actor_is v lv = let t = turn_at v lv in ap numbered_actor t.1 ∙ t.2.actor

  pub cast : IsReadyCast (job_cast job)
  cast = is_ready job accepted seeds roles fit

  all_notes : map (turn_notes d ts) (range_with_len 0 d.graph.n) ≡ replicate d.graph.n (no_notes d)
  all_notes =
      same_lists (map (turn_notes d ts) (range_with_len 0 d.graph.n)) (replicate d.graph.n (no_notes d))
      (length-map-range_with_len (turn_notes d ts) 0 d.graph.n ∙ sym (length-replicate d.graph.n (no_notes d)))
      (λ k x lt. at k x (subst (λ n. k < n) (length-map-range_with_len (turn_notes d ts) 0 d.graph.n) lt))
    where
      at : (k : ℕ) (x : Notes) → k < d.graph.n → get_or (map (turn_notes d ts) (range_with_len 0 d.graph.n)) k x ≡ get_or (replicate d.graph.n (no_notes d)) k x
      at k x lt =
          get_or-map-range_with_len (turn_notes d ts) 0 d.graph.n k k x lt (zero-add k)
          ∙ (ap (turn_actor_notes d) (actor_is k lt) ∙ ((acts_at k lt).notes ∙ sym (get_or-replicate d.graph.n k (no_notes d) x lt)))

  all_plans : map (turn_plan d ts) (range_with_len 0 d.graph.n) ≡ map (first_plan d) job.roles
  all_plans =
      same_lists (map (turn_plan d ts) (range_with_len 0 d.graph.n)) (map (first_plan d) job.roles)
      (length-map-range_with_len (turn_plan d ts) 0 d.graph.n ∙ (sym (role_each job seeds roles) ∙ sym (length-map job.roles (first_plan d))))
      (λ k x lt. at k x (subst (λ n. k < n) (length-map-range_with_len (turn_plan d ts) 0 d.graph.n) lt))
    where
      at : (k : ℕ) (x : Plan) → k < d.graph.n → get_or (map (turn_plan d ts) (range_with_len 0 d.graph.n)) k x ≡ get_or (map (first_plan d) job.roles) k x
      at k x lt =
          get_or-map-range_with_len (turn_plan d ts) 0 d.graph.n k k x lt (zero-add k)
          ∙ (ap (race_plan d) (actor_is k lt) ∙ ((acts_at k lt).plan
          ∙ sym (get_or-map (first_plan d) job.roles k kinds.Manual x (subst (λ n. k < n) (sym (role_each job seeds roles)) lt))))

  abbrev with_parts : Histories → List Notes → List Plan → State
  with_parts b ns ps = record { book = b; notes = ns; plans = ps; asked = [] }

  first_book : race_book ls ≡ no_histories d
  first_book = some_histories (new_ledgers d) ∙ none_yet d

  pub first_state : race_state job ls ts ≡ start (job_cast job)
  first_state = λ i. with_parts (first_book i) (all_notes i) (all_plans i)

  ledger_is : (a : ℕ) → a < length d.graph.arcs → arc_ledger ls a ≡ Some (new_ledger d a)
  ledger_is a lt =
      get_or-map (λ (l : LedgerState). Some l) (new_ledgers d) a (new_ledger d a) None
      (subst (λ n. a < n) (sym (length-map-range_with_len (new_ledger d) 0 (length d.graph.arcs))) lt)
      ∙ ap (λ (l : LedgerState). Some l) (get_or-map-range_with_len (new_ledger d) 0 (length d.graph.arcs) a a (new_ledger d a) lt (zero-add a))

  pub stands_first : StandsHome job ls ts
  stands_first = record {
    cast = cast;
    home = record {
      one_each = length-map (new_ledgers d) (λ (l : LedgerState). Some l) ∙ length-map-range_with_len (new_ledger d) 0 (length d.graph.arcs);
      each = λ a lt. subst (IsHome d a) (sym (ledger_is a lt)) (record { deal = refl; arc = refl; legal = tt });
    };
    places = record {
      actors = new.number;
      passes = λ v lv. let t = turn_at v lv in ap (λ o. length (held_passes o)) t.1 ∙ (ap length t.2.passes ∙ length-replicate (length d.graph.arcs) None);
      clocks = let t = clock_turn in ap (λ o. length (held_clocks o)) t.1 ∙ (ap length t.2.clocks ∙ length-replicate (length d.graph.arcs) None);
    };
    free = λ a lt. record {
      passes = λ v lv. let t = turn_at v lv in ap (λ o. slice_index_or (held_passes o) a None) t.1 ∙
          (ap (λ ps. slice_index_or ps a None) t.2.passes ∙ replicated (length d.graph.arcs) a None);
      clock = let t = clock_turn in ap (λ o. slice_index_or (held_clocks o) a None) t.1 ∙
          (ap (λ ps. slice_index_or ps a None) t.2.clocks ∙ replicated (length d.graph.arcs) a None);
    };
    actors = λ v lv. subst (IsJobActor job v) (sym (actor_is v lv)) (acts_at v lv).is;
    clock = let t = clock_turn in ap numbered_actor t.1 ∙ t.2.actor;
    good = subst (IsGood (job_cast job)) (sym first_state) (start_is_good (job_cast job) cast);
    own = λ v lv. subst (λ (w : Actor × Histories). KnowsOwn v w.0 w.1) (λ i. (sym (actor_is v lv) i, sym first_book i)) (acts_at v lv).own;
  }
