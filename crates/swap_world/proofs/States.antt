-- The state that ledgers and players show, after a look, an act and a call, where slots may be
-- swept.
use Rattle.std.proofs.Common.{◌≡◌, ℕ, ◌<◌, Bool, true, false, cond, List, [], ◌∷◌, ◌++◌, length, get_or, set, slice_index_or, map, Option}
use Rattle.std.proofs.Common.{Some, None, refl, sym, ap, ap₂, ◌∙◌, subst}
use Rattle.std.proofs.Math.Seq.{map-set_same}
use Rattle.std.proofs.lemmas.List.{map-set, get_or-map, length-map, set-get_or, length-set}
use Rattle.swap_digraph.specs.declared.deal.Deal.{Deal}
use Rattle.hashkey_path.specs.declared.hashkey.Hashkey.{Hashkey}
use Rattle.ledger_core.specs.declared.entry.Call.{Call}
use Rattle.ledger_core.specs.declared.entry.Entry.{Entry}
use Rattle.ledger_core.specs.Value.{LedgerState}
use Rattle.ledger_core.specs.Book.{Histories, history}
use Rattle.swap_job.specs.Resolved.{resolved}
use Rattle.swap_run.specs.View.{MayAnswer}
use Rattle.swap_job.specs.declared.event.Event.TheVariants.{Look, Act, Call as Made, Crash}
use Rattle.swap_job.specs.declared.job.Role.{Role}
use Rattle.swap_job.specs.declared.job.Role.TheVariants as kinds
use Rattle.swap_job.specs.declared.moves.Move.{Move}
use Rattle.swap_rules.specs.Due.{Wallet, Action, due, first}
use Rattle.party_wallet.specs.Value.{signed_hashkey}
use Rattle.swap_run.specs.Run.{Cast, Notes, Plan, State, conforms, party_role, state_notes, party_plan, plan_with_ledger, signed_through_call, notes_with_ledger, look}
use Rattle.swap_run.specs.Run.{next_action}
use Rattle.swap_run.specs.Run.{Question, watch, step, answered_call, relearnt, recorded_hashkeys}
use Rattle.swap_run.specs.Called.{apply_step}
use Rattle.swap_run.specs.Asked.{Answers, with_answers}
use Rattle.party_machine.specs.Wallet.{seed_wallet}
use Rattle.party_machine.specs.Machine.{MachineState, next_due}
use Rattle.swap_world.proofs.Plans.{IsScript, absent, due_call, answer_is, planned_look, planned_call, planned_act, planned_ask}
use Rattle.swap_world.specs.Cast.{made_cast, signing_wallet}
use Rattle.swap_world.specs.Acting.{histories, landed, next_book, next_machine, build_told, taken, seen, party_told, turned, asked_once, answer_question}
use Rattle.swap_world.specs.On.{event_told}
use Rattle.swap_world.proofs.On.{make_on, act_on, act_is, call_is, told_due, told_call, told_script, told_strategy}
use Rattle.swap_world.specs.Inside.{actor_notes, actor_plan, IsPartyActor, ArePartyActors}
use Rattle.wallet_journal.specs.Journal.{JournalState}
use Rattle.wallet_journal.specs.Memory.{DiskState}
use Rattle.swap_world.specs.Players.{Actor, knowing_ledger}
use Rattle.swap_world.specs.declared.player.Player.TheVariants.{Conforming, Planned, Manual}
use Rattle.swap_world.proofs.Ledgers.{each_set}

-- A player in the place of another.

pub actor_set : (d : Deal) (conforming : List Bool) (seeds : List (Option (List ℕ))) (roles : List Role) (xs : List Actor) (p : ℕ) (y : Actor)
    → ArePartyActors d conforming seeds roles xs → p < length xs
    → IsPartyActor d (slice_index_or conforming p false) (slice_index_or seeds p None) (slice_index_or roles p kinds.Manual) p y
    → ArePartyActors d conforming seeds roles (set xs p y)
actor_set d conforming seeds roles xs p y k lt i = record {
  one_each = length-set xs p y ∙ k.one_each;
  each = each_set (λ v x. IsPartyActor d (slice_index_or conforming v false) (slice_index_or seeds v None) (slice_index_or roles v kinds.Manual) v x) xs p y
      k.each lt i;
}

-- a machine after a crash of its party, over the histories as they stand
abbrev pub crashed_machine : Deal → MachineState → (k image : ℕ) → Histories → MachineState
crashed_machine d m k image b = record {
  deal = m.deal;
  me = m.me;
  seed = m.seed;
  known = relearnt d m.me b;
  signed = recorded_hashkeys m.signed (next_due m) k image;
}

-- the state of those questions, players and histories
abbrev pub state : Deal → List Question → List Actor → Histories → State
state d qs ys b = record { book = b; notes = map (actor_notes d) ys; plans = map (actor_plan d) ys; asked = qs }

module _ (d : Deal) (conforming : List Bool) (seeds : List (Option (List ℕ))) (roles : List Role) (qs : List Question) (ls : List LedgerState)
    (xs : List Actor) where
  -- who takes part
  abbrev pub c : Cast
  c = made_cast d conforming seeds roles

  -- the state before
  abbrev pub s : State
  s = state d qs xs (histories ls)

  -- the state with these parts
  abbrev st : Histories → List Notes → List Plan → State
  st b ns ps = record { book = b; notes = ns; plans = ps; asked = qs }

  same_parts : (b b' : Histories) (ns ns' : List Notes) (ps ps' : List Plan) → b ≡ b' → ns ≡ ns' → ps ≡ ps' → st b ns ps ≡ st b' ns' ps'
  same_parts b b' ns ns' ps ps' eb en ep = ap₂ (λ (x : Histories) (y : List Notes). st x y ps) eb en ∙ ap (λ (z : List Plan). st b' ns' z) ep

  -- the state with another player in the place of party p
  abbrev pub replaced : ℕ → Actor → Histories → State
  replaced p x b = state d qs (set xs p x) b

  where_it_conforms : (p : ℕ) (t u : State) → slice_index_or conforming p false ≡ true → t ≡ cond (conforms c p) t u
  where_it_conforms p t u e = sym (ap (λ (b : Bool). cond b t u) e)

  -- the same player in its place
  pub same_actor : (p : ℕ) (x y : Actor) (b : Histories) → x ≡ get_or xs p x → y ≡ x → replaced p y b ≡ state d qs xs b
  same_actor p x y b here e =
      ap (λ (z : Actor). replaced p z b) e ∙ ap (λ (ys : List Actor). state d qs ys b) (ap (λ (z : Actor). set xs p z) here ∙ set-get_or xs p x)

  -- Conforming parties.

  -- a machine with its journal, in the place of party p
  pub record IsAt (p : ℕ) (m : MachineState) (j : JournalState DiskState) : Type 0 where
    pub below : p < length xs
    pub here : Conforming m j ≡ get_or xs p (Conforming m j)
    pub is : IsPartyActor d (slice_index_or conforming p false) (slice_index_or seeds p None) (slice_index_or roles p kinds.Manual) p (Conforming m j)

  pub notes_at : (p : ℕ) (m : MachineState) (j : JournalState DiskState) → IsAt p m j → state_notes s p ≡ record { known = m.known; signed = m.signed }
  notes_at p m j i = get_or-map (actor_notes d) xs p (Conforming m j) (record { known = []; signed = [] }) i.below ∙ ap (actor_notes d) (sym i.here)

  -- a machine plans nothing
  plans_still : (p : ℕ) (m new : MachineState) (j k : JournalState DiskState) → IsAt p m j
      → map (actor_plan d) (set xs p (Conforming new k)) ≡ map (actor_plan d) xs
  plans_still p m new j k i = map-set_same (actor_plan d) xs p (Conforming new k) (Conforming m j) (ap (actor_plan d) i.here)

  noted : (p : ℕ) (m : MachineState) (k : JournalState DiskState) (n : Notes) → record { known = m.known; signed = m.signed } ≡ n
      → map (actor_notes d) (set xs p (Conforming m k)) ≡ set (map (actor_notes d) xs) p n
  noted p m k n e = map-set (actor_notes d) xs p (Conforming m k) ∙ ap (λ (x : Notes). set (map (actor_notes d) xs) p x) e

  -- a machine's notes
  abbrev notes_of : MachineState → Notes
  notes_of m = record { known = m.known; signed = m.signed }

  pub looked : (p a : ℕ) (m new : MachineState) (j k : JournalState DiskState) → IsAt p m j → new ≡ record {
    deal = m.deal;
    me = m.me;
    seed = m.seed;
    known =
        set m.known a (history (histories ls) a);
    signed = m.signed;
  }
      → replaced p (Conforming new k) (histories ls) ≡ step c s (Look p a)
  looked p a m new j k i e =
      let n : notes_of new ≡ notes_with_ledger (state_notes s p) a (history (histories ls) a)
      = ap notes_of e ∙ ap (λ (x : Notes). notes_with_ledger x a (history (histories ls) a)) (sym (notes_at p m j i)) in
      same_parts _ _ _ _ _ _ refl (noted p new k _ n) (plans_still p m new j k i) ∙ where_it_conforms p (look s p a) (watch c s p a) i.is.0

  pub next_is : (p : ℕ) (m : MachineState) (j : JournalState DiskState) → IsAt p m j → next_action c s p ≡ next_due m
  next_is p m j i =
      let w : c.wallet p ≡ seed_wallet m.seed m.me m.deal
      = ap (λ (o : Option (List ℕ)). signing_wallet o p d) i.is.3 ∙ ap₂ (λ (v : ℕ) (e : Deal). seed_wallet m.seed v e) (sym i.is.2) (sym i.is.1) in
      ap (λ (n : Notes). first (due d p (c.wallet p) (signed_hashkey n.signed) n.known)) (notes_at p m j i)
      ∙ (ap (λ (w : Wallet). first (due d p w (signed_hashkey m.signed) m.known)) w
      ∙ ap₂ (λ (v : ℕ) (e : Deal). first (due e v (seed_wallet m.seed m.me m.deal) (signed_hashkey m.signed) m.known)) (sym i.is.2) (sym i.is.1))

  made : (sw : ℕ → Bool) (p : ℕ) (m new : MachineState) (j k : JournalState DiskState) (b : Histories) (o : Option Action) → IsAt p m j
      → b ≡ next_book sw m o (histories ls) → new ≡ next_machine sw m o (histories ls) → replaced p (Conforming new k) b ≡ make_on sw d s p o
  made sw p m new j k b None i eb en =
      same_parts _ _ _ _ _ _ eb
      (map-set_same (actor_notes d) xs p (Conforming new k) (Conforming m j) (ap notes_of en ∙ ap (actor_notes d) i.here)) (plans_still p m new j k i)
  made sw p m new j k b (Some x) i eb en =
      let h : landed (sw x.arc) m.deal x.arc m.me x.call (history (histories ls) x.arc)
      ≡ landed (sw x.arc) d x.arc p x.call (history (histories ls) x.arc)
      = ap₂ (λ (e : Deal) (v : ℕ). landed (sw x.arc) e x.arc v x.call (history (histories ls) x.arc)) i.is.1 i.is.2 in
      let n : notes_of new ≡ record {
        known =
            set (state_notes s p).known x.arc (landed (sw x.arc) d x.arc p x.call (history (histories ls) x.arc));
        signed =
            signed_through_call (state_notes s p).signed x.call;
      }
      = ap notes_of en
      ∙ (ap (λ (k : List Entry). note (set m.known x.arc k) (signed_through_call m.signed x.call)) h
      ∙ ap (λ (z : Notes). note (set z.known x.arc (landed (sw x.arc) d x.arc p x.call (history (histories ls) x.arc))) (signed_through_call z.signed x.call))
      (sym (notes_at p m j i))) in
      same_parts _ _ _ _ _ _ (eb ∙ ap (λ (k : List Entry). set (histories ls) x.arc k) h) (noted p new k _ n) (plans_still p m new j k i)
    where
      note : Histories → List (Option Hashkey) → Notes
      note k ss = record { known = k; signed = ss }

  pub acted : (sw : ℕ → Bool) (p : ℕ) (m new : MachineState) (j k : JournalState DiskState) (b : Histories) → IsAt p m j
      → b ≡ next_book sw m (next_due m) (histories ls) → new ≡ next_machine sw m (next_due m) (histories ls)
      → replaced p (Conforming new k) b ≡ apply_step sw c s (Act p)
  acted sw p m new j k b i eb en =
      made sw p m new j k b (next_due m) i eb en ∙ (ap (λ (o : Option Action). make_on sw d s p o) (sym (next_is p m j i))
      ∙ (where_it_conforms p (make_on sw d s p (next_action c s p)) (act_on sw c s p (party_role c p)) i.is.0 ∙ sym (act_is sw c s p)))

  -- a party crashes and restarts
  pub crashed : (p k image : ℕ) (m new : MachineState) (j h : JournalState DiskState) → IsAt p m j → new ≡ crashed_machine d m k image (histories ls)
      → replaced p (Conforming new h) (histories ls) ≡ step c s (Crash p k image)
  crashed p k image m new j h i e =
      let was : (state_notes s p).signed ≡ m.signed = ap (λ (n : Notes). n.signed) (notes_at p m j i) in
      let n : notes_of new ≡ record {
        known = relearnt d p (histories ls);
        signed = recorded_hashkeys (state_notes s p).signed (next_action c s p) k image;
      }
      = ap notes_of e
      ∙ (λ t. record { known = relearnt d (i.is.2 t) (histories ls); signed = recorded_hashkeys (sym was t) (sym (next_is p m j i) t) k image }) in
      same_parts _ _ _ _ _ _ refl (noted p new h _ n) (plans_still p m new j h i)

  -- the histories after it, whatever became of the machine
  pub acted_book : (sw : ℕ → Bool) (p : ℕ) (m : MachineState) (j : JournalState DiskState) → IsAt p m j
      → next_book sw m (next_due m) (histories ls) ≡ (apply_step sw c s (Act p)).book
  acted_book sw p m j i =
      ap (λ (t : State). t.book)
      (acted sw p m (next_machine sw m (next_due m) (histories ls)) j j (next_book sw m (next_due m) (histories ls)) i refl refl)

  -- what the party is told
  pub acted_told : (sw : ℕ → Bool) (p : ℕ) (m : MachineState) (j : JournalState DiskState) → IsAt p m j
      → build_told sw m (next_due m) (histories ls) ≡ event_told sw c s (Act p)
  acted_told sw p m j i =
      ap (λ (o : Option Action). build_told sw m o (histories ls)) (sym (next_is p m j i)) ∙ told_due sw c s m p i.is.0 i.is.1 i.is.2

  -- Parties that follow a script or a strategy.

  -- a plan, in the place of party p
  pub record IsPlanAt (p : ℕ) (n : Plan) : Type 0 where
    pub below : p < length xs
    pub here : Planned n ≡ get_or xs p (Planned n)
    pub is : IsPartyActor {J = JournalState DiskState} d (slice_index_or conforming p false) (slice_index_or seeds p None)
        (slice_index_or roles p kinds.Manual) p (Planned n)

  pub plan_at : (p : ℕ) (n : Plan) → IsPlanAt p n → party_plan s p ≡ n
  plan_at p n i = get_or-map (actor_plan d) xs p (Planned n) absent i.below ∙ ap (actor_plan d) (sym i.here)

  has_plan : (p : ℕ) (n : Plan) → IsPlanAt p n → (p < length s.plans) × (party_plan s p ≡ n)
  has_plan p n i = (subst (λ l. p < l) (sym (length-map xs (actor_plan d))) i.below, plan_at p n i)

  -- what party p plans is all that another plan in its place changes
  planned : (p : ℕ) (n new : Plan) (b : Histories) → IsPlanAt p n → replaced p (Planned new) b ≡ st b s.notes (set s.plans p new)
  planned p n new b i =
      same_parts _ _ _ _ _ _ refl (map-set_same (actor_notes d) xs p (Planned new) (Planned n) (ap (actor_notes d) i.here))
      (map-set (actor_plan d) xs p (Planned new))

  -- a plan in the place of another notes nothing
  pub plan_notes : (p : ℕ) (n new : Plan) → IsPlanAt p n → map (actor_notes d) (set xs p (Planned new)) ≡ map (actor_notes d) xs
  plan_notes p n new i = map-set_same (actor_notes d) xs p (Planned new) (Planned n) (ap (actor_notes d) i.here)

  pub watched : (p a : ℕ) (n new : Plan) → IsPlanAt p n → new ≡ plan_with_ledger n a (history (histories ls) a)
      → replaced p (Planned new) (histories ls) ≡ step c s (Look p a)
  watched p a n new i e =
      planned p n new (histories ls) i ∙ (ap (λ (m : Plan). st (histories ls) s.notes (set s.plans p m)) e
      ∙ sym (planned_look d conforming seeds roles s p a n i.is.0 i.is.1 (has_plan p n i)))

  -- whoever stands there
  pub saw : (p a : ℕ) (x new : Actor) → p < length xs → x ≡ get_or xs p x
      → IsPartyActor d (slice_index_or conforming p false) (slice_index_or seeds p None) (slice_index_or roles p kinds.Manual) p x
      → new ≡ knowing_ledger x a (history (histories ls) a) → replaced p new (histories ls) ≡ step c s (Look p a)
  saw p a (Conforming m j) new lt here is e =
      ap (λ (y : Actor). replaced p y (histories ls)) e ∙ looked p a m _ j j (record { below = lt; here = here; is = is }) refl
  saw p a (Planned n) new lt here is e =
      ap (λ (y : Actor). replaced p y (histories ls)) e ∙ watched p a n _ (record { below = lt; here = here; is = is }) refl
  saw p a Manual new lt here is e =
      same_actor p Manual new (histories ls) here e
      ∙ (ap (λ (b : Bool). record s { plans = cond b (set s.plans p (plan_with_ledger (party_plan s p) a (history (histories ls) a))) s.plans }) (sym is.1)
      ∙ ap (λ (b : Bool). cond b (look s p a) (watch c s p a)) (sym is.0))

  pub followed : (sw : ℕ → Bool) (p : ℕ) (n new : Plan) (b : Histories) → IsPlanAt p n → IsScript (party_role c p)
      → b ≡ taken sw d p (due_call d conforming seeds roles n) (histories ls)
      → new ≡ seen sw d p (due_call d conforming seeds roles n) (histories ls) (turned n) → replaced p (Planned new) b ≡ apply_step sw c s (Act p)
  followed sw p n new b i script eb en =
      planned p n new b i ∙ (ap₂ (λ (x : Histories) (m : Plan). st x s.notes (set s.plans p m)) eb en
      ∙ sym (planned_act d conforming seeds roles sw s p n i.is.0 script (has_plan p n i)))

  pub followed_book : (sw : ℕ → Bool) (p : ℕ) (n : Plan) → IsPlanAt p n → IsScript (party_role c p)
      → taken sw d p (due_call d conforming seeds roles n) (histories ls) ≡ (apply_step sw c s (Act p)).book
  followed_book sw p n i script = ap (λ (t : State). t.book) (followed sw p n _ _ i script refl refl)

  pub followed_notes : (sw : ℕ → Bool) (p : ℕ) (n : Plan) → IsPlanAt p n → IsScript (party_role c p) → (apply_step sw c s (Act p)).notes ≡ map (actor_notes d) xs
  followed_notes sw p n i script = sym (ap (λ (t : State). t.notes) (followed sw p n _ _ i script refl refl)) ∙ plan_notes p n _ i

  pub followed_told : (sw : ℕ → Bool) (p : ℕ) (n : Plan) → IsPlanAt p n → IsScript (party_role c p)
      → party_told sw d p (due_call d conforming seeds roles n) (histories ls) ≡ event_told sw c s (Act p)
  followed_told sw p n i script =
      ap (λ (m : Plan). party_told sw d p (due_call d conforming seeds roles m) (histories ls)) (sym (plan_at p n i))
      ∙ sym (told_script sw c s p script.0 i.is.0 script.1)

  -- the party has asked its strategy, and made the call that was answered
  pub answered : (sw : ℕ → Bool) (g : Answers) (p : ℕ) (n new : Plan) (b : Histories) (name : List ℕ) (o : Option (ℕ × Call)) → IsPlanAt p n
      → party_role c p ≡ kinds.Strategy name → g (length qs) ≡ o → MayAnswer d p o → b ≡ taken sw d p o (histories ls)
      → new ≡ seen sw d p o (histories ls) (asked_once n)
      → state d (qs ++ answer_question name p n ∷ []) (set xs p (Planned new)) b ≡ apply_step sw (with_answers c g) s (Act p)
  answered sw g p n new b name o i role at may eb en =
      ap (λ (t : State). record t { asked = qs ++ answer_question name p n ∷ [] }) (planned p n new b i)
      ∙ (ap₂ (λ (x : Histories) (m : Plan). record (st x s.notes (set s.plans p m)) { asked = qs ++ answer_question name p n ∷ [] }) eb en
      ∙ sym (planned_ask d conforming seeds roles sw g s p n name o i.is.0 i.is.1 role (has_plan p n i) at may))

  pub answered_told : (sw : ℕ → Bool) (g : Answers) (p : ℕ) (n : Plan) (name : List ℕ) (o : Option (ℕ × Call)) → IsPlanAt p n
      → party_role c p ≡ kinds.Strategy name → g (length qs) ≡ o → MayAnswer d p o
      → party_told sw d p o (histories ls) ≡ event_told sw (with_answers c g) s (Act p)
  answered_told sw g p n name o i role at may =
      sym (told_strategy sw (with_answers c g) s p name i.is.0 role
      ∙ (ap (λ (x : Option (ℕ × Call)). party_told sw d p (answered_call d p x) (histories ls)) at
      ∙ ap (λ (x : Option (ℕ × Call)). party_told sw d p x (histories ls)) (answer_is d p o may)))

  pub made_by_hand : (sw : ℕ → Bool) (p : ℕ) (mv : Move) (n new : Plan) (b : Histories) → IsPlanAt p n
      → b ≡ taken sw d p (resolved d seeds (histories ls) mv) (histories ls)
      → new ≡ seen sw d p (resolved d seeds (histories ls) mv) (histories ls) n → replaced p (Planned new) b ≡ apply_step sw c s (Made p mv)
  made_by_hand sw p mv n new b i eb en =
      planned p n new b i ∙ (ap₂ (λ (x : Histories) (m : Plan). st x s.notes (set s.plans p m)) eb en
      ∙ sym (call_is sw c s p mv ∙ planned_call d conforming seeds roles sw s p n (resolved d seeds (histories ls) mv) i.is.1 (has_plan p n i)))

  pub made_book : (sw : ℕ → Bool) (p : ℕ) (mv : Move) (n : Plan) → IsPlanAt p n
      → taken sw d p (resolved d seeds (histories ls) mv) (histories ls) ≡ (apply_step sw c s (Made p mv)).book
  made_book sw p mv n i = ap (λ (t : State). t.book) (made_by_hand sw p mv n _ _ i refl refl)

  pub made_notes : (sw : ℕ → Bool) (p : ℕ) (mv : Move) (n : Plan) → IsPlanAt p n → (apply_step sw c s (Made p mv)).notes ≡ map (actor_notes d) xs
  made_notes sw p mv n i = sym (ap (λ (t : State). t.notes) (made_by_hand sw p mv n _ _ i refl refl)) ∙ plan_notes p n _ i

  pub made_told : (sw : ℕ → Bool) (p : ℕ) (mv : Move) → party_told sw d p (resolved d seeds (histories ls) mv) (histories ls) ≡ event_told sw c s (Made p mv)
  made_told sw p mv = sym (told_call sw c s p mv)
