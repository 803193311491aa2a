-- A party that follows a script or a strategy: what its looks and its call leave of what it knows.
use Rattle.std.proofs.Common.{◌≡◌, ◌≢◌, ◌⊎◌, ℕ, ◌+◌, ◌<◌, ◌≤◌, ◌==◌, ◌++◌, Bool, true, false, true≢false, List, [], ◌∷◌, length, set, take, Option}
use Rattle.std.proofs.Common.{Some, None, append_assoc, append-nil, refl, sym, ap, ◌∙◌, subst, inl, inr, arith, eqb-true, eq-eqb, if◌then◌else◌}
use Rattle.std.proofs.Common.{All, Result, Ok, Err, OnOk, IfOk}
use Rattle.std.proofs.lemmas.List.{length-set, set-set}
use Rattle.swap_job.specs.Fitting.{is_near, IsPartyMove}
use Rattle.swap_job.specs.Roles.{job_role}
use Rattle.swap_job.specs.declared.job.Job.{Job}
use mathlib.Core.List.{IsPrefix}
use Rattle.swap_digraph.specs.declared.deal.Deal.{Deal}
use Rattle.ledger_core.specs.declared.entry.Call.{Call}
use Rattle.ledger_core.specs.declared.entry.Entry.{Entry}
use Rattle.ledger_core.specs.declared.entry.Sender.TheVariants.{Party}
use Rattle.ledger_core.specs.declared.entry.What.TheVariants.{Call as Made}
use Rattle.ledger_core.specs.History.{IsLegal}
use Rattle.ledger_core.specs.Ledger.{after_call}
use Rattle.ledger_core.specs.Book.{Histories, history, IsLegalBook}
use Rattle.ledger_shared.specs.Value.{PassState, SharedState, party_made}
use Rattle.swap_job.specs.declared.job.Role.{Role}
use Rattle.swap_job.specs.declared.job.Role.TheVariants.{Conforming, Manual, Script, Strategy}
use Rattle.swap_job.specs.Crafted.{Seeds}
use Rattle.swap_run.specs.Script.{next_call as script_call, moves_left}
use Rattle.swap_run.specs.View.{IsView, IsPartyAnswer, MayAnswer}
use Rattle.swap_rules.specs.Machine.{Begins}
use Rattle.swap_rules.proofs.Prefixes.{same_or_not}
use Rattle.swap_rules.proofs.Conducting.{Next, next_call, next_legal, next_begins, history_same, history_other}
use Rattle.swap_run.specs.Asked.{is_strategy}
use Rattle.swap_run.specs.Run.{Plan}
use Rattle.swap_world.specs.Gone.{MayGive}
use Rattle.party_threads.specs.Later.{arc_pass, Advanced, HaveAdvanced}
use Rattle.party_threads.specs.Tracks.{Watcher, Tracks, IsWatching, HaveSeenAll, HaveFresh, HaveLooked, CanWatcherCall, HasLearntCall}
use Rattle.party_threads.specs.Played.{party_planner, plan_rest, sender_calls, arc_answer, HaveGrown, IsPlanAnswer, HasDone, HasPlayed}
use Rattle.party_threads.specs.Took.{HasPlanned}
use Rattle.party_threads.proofs.Passes.{seen_of}
use Rattle.party_threads.proofs.Looking.{legal_after}
use Rattle.party_threads.proofs.Calls.{others_add_none, few, none_more, one_more}

-- After its looks.

view_after : (ledgers : List SharedState) (d : Deal) (v : ℕ) (n m : Plan) (ps qs : List (Option PassState)) (k : ℕ) → IsView d v n.known
    → IsWatching ledgers (party_planner d v n) ps → HaveLooked ledgers (party_planner d v n) ps k (party_planner d v m) qs → IsView d v m.known
view_after ledgers d v n m ps qs k view i h = record {
  sized = view.sized;
  party = view.party;
  legal = legal_after d n.known m.known h.watching.known h.legal view.legal;
  far = λ a lt e. h.elsewhere a (i.passes.far a (subst (λ z. a < z) (sym i.tracks.places) lt) e) ∙ view.far a lt e;
}

-- A call.

legal_set : (d : Deal) (b : Histories) (a : ℕ) (h : List Entry) → a < length b → IsLegal d a h → IsLegalBook d b → IsLegalBook d (set b a h)
legal_set d b a h below legal l = legal_after d b (set b a h) (length-set b a h ∙ l.one_each) (λ c. go c (same_or_not c a)) l
  where
    go : (c : ℕ) → (c ≡ a) ⊎ (c ≢ a) → IsLegal d c (history b c) → IsLegal d c (history (set b a h) c)
    go c (inl e) old = subst (λ z. IsLegal d z (history (set b a h) z)) (sym e) (subst (IsLegal d a) (sym (history_same b a h below)) legal)
    go c (inr n) old = subst (IsLegal d c) (sym (history_other b a c h n)) old

-- of a party's own calls it knows few
few_known : (d : Deal) (v : ℕ) (k : Histories) (a : ℕ) → IsView d v k → a < length d.graph.arcs → length (sender_calls v (history k a)) ≤ 32
few_known d v k a view lt = go (is_near d v a) refl
  where
    go : (b : Bool) → is_near d v a ≡ b → length (sender_calls v (history k a)) ≤ 32
    go true e = few d a (history k a) v (view.legal.legal a (subst (λ z. a < z) (sym view.legal.one_each) lt)) e
    go false e = subst (λ h. length (sender_calls v h) ≤ 32) (sym (view.far a lt e)) (omega arith)

same_calls : (d : Deal) (v : ℕ) (k : Histories) (a : ℕ) (h : List Entry) → IsView d v k → a < length d.graph.arcs → h ≡ history k a
    → sender_calls v h ≡ take 32 (sender_calls v (history k a) ++ [])
same_calls d v k a h view lt is = ap (sender_calls v) is ∙ none_more (sender_calls v (history k a)) (few_known d v k a view lt)

module _ (d : Deal) (v : ℕ) (known : Histories) (x : ℕ × Call) (view : IsView d v known) (is : IsPartyAnswer d v x) (others : List Entry)
    (foreign : party_made v others ≡ []) (allowed : IsLegal d x.0 (history known x.0 ++ others)) where
  abbrev a : ℕ
  a = x.0

  abbrev c : Call
  c = x.1

  below : a < length known
  below = subst (λ z. a < z) (sym view.legal.one_each) is.arc

  abbrev k : List Entry
  k = history known a

  abbrev g : List Entry
  g = k ++ others

  abbrev h : List Entry
  h = after_call d a v c g

  next : Next d a g h (Party v) (Made c)
  next = next_call d a g v c is.near is.fits

  seen_others : IsLegalBook d (set known a g)
  seen_others = legal_set d known a g below allowed view.legal

  legal : IsLegalBook d (set known a h)
  legal =
      subst (IsLegalBook d) (set-set known a g h)
      (next_legal d (set known a g) a h (Party v) (Made c) (subst (λ z. a < z) (sym (length-set known a g)) below)
      (subst (λ z. Next d a z h (Party v) (Made c)) (sym (history_same known a g below)) next) seen_others)

  far : (b : ℕ) → b < length d.graph.arcs → is_near d v b ≡ false → history (set known a h) b ≡ []
  far b lt e = history_other known a b h (λ same. true≢false (sym (subst (λ z. is_near d v z ≡ true) (sym same) is.near) ∙ e)) ∙ view.far b lt e

  grown_at : (b : ℕ) → (b ≡ a) ⊎ (b ≢ a) → Begins (history known b) (history (set known a h) b)
  grown_at b (inl same) =
      let later = next_begins d a g h (Party v) (Made c) next in
      subst (λ z. Begins (history known z) (history (set known a h) z)) (sym same)
      (others ++ later.0, history_same known a h below ∙ (later.1 ∙ append_assoc k others later.0))
  grown_at b (inr apart) = ([], history_other known a b h apart ∙ sym (append-nil (history known b)))

  answered_here : arc_answer a (Some x) ≡ c ∷ []
  answered_here = ap (λ b. if b then c ∷ [] else []) (eq-eqb a a refl)

  called_at : (b : ℕ) → b < length d.graph.arcs → (b ≡ a) ⊎ (b ≢ a)
      → sender_calls v (history (set known a h) b) ≡ take 32 (sender_calls v (history known b) ++ arc_answer b (Some x))
  called_at b lt (inl same) =
      subst (λ z. sender_calls v (history (set known a h) z) ≡ take 32 (sender_calls v (history known z) ++ arc_answer z (Some x))) (sym same)
      (ap (sender_calls v) (history_same known a h below)
      ∙ (one_more d a v c k others allowed is.near foreign ∙ ap (λ cs. take 32 (sender_calls v k ++ cs)) (sym answered_here)))
  called_at b lt (inr apart) =
      same_calls d v known b (history (set known a h) b) view lt (history_other known a b h apart)
      ∙ ap (λ cs. take 32 (sender_calls v (history known b) ++ cs)) (sym (ap (λ z. if z then c ∷ [] else []) (apart_test (a == b) refl)))
    where
      apart_test : (z : Bool) → (a == b) ≡ z → (a == b) ≡ false
      apart_test true e = absurd (apart (sym (eqb-true a b e)))
      apart_test false e = e

  call_done : HasDone d v (Some x) known (set known a h)
  call_done = record {
    view = record { sized = view.sized; party = view.party; legal = legal; far = far };
    grown = λ b. grown_at b (same_or_not b a);
    called = λ b lt. called_at b lt (same_or_not b a);
  }

pub has_done : (d : Deal) (v : ℕ) (o : Option (ℕ × Call)) (x : ℕ × Call) (n m : Plan) → MayAnswer d v o → IsView d v n.known → o ≡ Some x
    → HasLearntCall (party_planner d v n) x.0 x.1 (party_planner d v m) → HasDone d v o n.known m.known
has_done d v o x n m may view is h =
    subst (λ z. HasDone d v z n.known m.known) (sym is)
    (subst (λ (w : Watcher). HasDone d v (Some x) n.known w.known) (sym h.knows)
    (call_done d v n.known x view (may x is) h.others h.foreign h.legal))

-- nothing is called where nothing is answered
pub has_done_nothing : (d : Deal) (v : ℕ) (o : Option (ℕ × Call)) (k : Histories) → IsView d v k → o ≡ None → HasDone d v o k k
has_done_nothing d v o k view is =
    subst (λ z. HasDone d v z k k) (sym is) (record {
      view = view;
      grown = λ a. ([], sym (append-nil (history k a)));
      called = λ a lt. same_calls d v k a (history k a) view lt refl;
    })

-- the call of an answer can be made, with all its signatures to be verified
pub can_call : (d : Deal) (v : ℕ) (n : Plan) (o : Option (ℕ × Call)) (x : ℕ × Call) → MayAnswer d v o → o ≡ Some x
    → CanWatcherCall (party_planner d v n) x.0 x.1 0
can_call d v n o x may is = let can = may x is in record { arc = can.arc; near = can.near; fits = can.fits; valid = refl }

-- The turn.

fresh_grows : (v : ℕ) (old new : Histories) → HaveFresh v old new → HaveGrown old new
fresh_grows v old new f a = ((f a).0, (f a).1)

fresh_own : (v : ℕ) (old new : Histories) → HaveFresh v old new → (a : ℕ) → sender_calls v (history new a) ≡ sender_calls v (history old a)
fresh_own v old new f a = ap (sender_calls v) (f a).1 ∙ others_add_none v (history old a) (f a).0 (f a).2

-- all that was shared with a pass is known once it has seen it
whole_known : (ledgers : List SharedState) (w : Watcher) (ps qs : List (Option PassState)) → Tracks ledgers w qs → HaveAdvanced ps qs → HaveSeenAll qs
    → length qs ≡ length ps → (a : ℕ) (p : PassState) → a < length ps → arc_pass ps a ≡ Some p → IsPrefix p.shared (history w.known a)
whole_known ledgers w ps qs tracks gone all places a p lt e =
    let went : Advanced (Some p) (arc_pass qs a) = subst (λ o. Advanced o (arc_pass qs a)) e (gone a) in
    let lt1 : a < length qs = subst (λ z. a < z) (sym places) lt in
    subst (λ s. IsPrefix s (history w.known a)) (ap (λ (r : PassState). r.shared) went.2.1)
    (subst (IsPrefix went.0.shared) (seen_of ledgers w qs a went.0 tracks lt1 went.1) (all a went.0 lt1 went.1))

-- the next call of a script is an answer of every party that follows no strategy
followed : (gives : MayGive) (d : Deal) (seeds : Seeds) (v : ℕ) (o : Option (ℕ × Call)) (n m : Plan) (role : Role) → is_strategy role ≡ false
    → o ≡ script_call d seeds n.known n.moves → m.moves ≡ moves_left n.known n.moves → IsPlanAnswer gives d seeds v n.known o n m role
followed gives d seeds v o n m (Script moves) none is left = (is, left)
followed gives d seeds v o n m (Strategy name) none is left = absurd (true≢false none)
followed gives d seeds v o n m Conforming none is left = tt
followed gives d seeds v o n m Manual none is left = tt

pub has_followed : {E : Type 0} (gives : MayGive) (d : Deal) (seeds : Seeds) (v : ℕ) (n m : Plan) (role : Role) (r : Result (Option (ℕ × Call)) E)
    → is_strategy role ≡ false → IfOk r (λ o. o ≡ script_call d seeds n.known n.moves)
    → OnOk r (m ≡ record n { moves = moves_left n.known n.moves; turns = n.turns + 1 }) → IfOk r (λ o. IsPlanAnswer gives d seeds v n.known o n m role)
has_followed gives d seeds v n m role (Ok o) none is turned = followed gives d seeds v o n m role none is (ap (λ (p : Plan). p.moves) turned)
has_followed gives d seeds v n m role (Err e) none is turned = tt

answered_as : (gives : MayGive) (d : Deal) (seeds : Seeds) (v : ℕ) (view : Histories) (answer : Option (ℕ × Call)) (n0 n1 n2 n3 : Plan) (role : Role)
    → n1.moves ≡ n0.moves → n1.turns ≡ n0.turns → n3.moves ≡ n2.moves → IsPlanAnswer gives d seeds v view answer n1 n2 role
    → IsPlanAnswer gives d seeds v view answer n0 n3 role
answered_as gives d seeds v view answer n0 n1 n2 n3 (Script moves) m t u h = (h.0 ∙ ap (script_call d seeds view) m, u ∙ (h.1 ∙ ap (moves_left view) m))
answered_as gives d seeds v view answer n0 n1 n2 n3 (Strategy name) m t u h = subst (λ k. gives name d v k view answer) t h
answered_as gives d seeds v view answer n0 n1 n2 n3 Conforming m t u h = tt
answered_as gives d seeds v view answer n0 n1 n2 n3 Manual m t u h = tt

has_played : (gives : MayGive) (ledgers : List SharedState) (d : Deal) (seeds : Seeds) (role : Role) (v : ℕ) (answer : Option (ℕ × Call))
    (n0 n1 n2 n3 : Plan) (ps qs : List (Option PassState)) → IsWatching ledgers (party_planner d v n0) ps
    → HaveLooked ledgers (party_planner d v n0) ps (length qs) (party_planner d v n1) qs → plan_rest n1 ≡ plan_rest n0 → IsView d v n1.known
    → IsPlanAnswer gives d seeds v n1.known answer n1 n2 role → MayAnswer d v answer → n2.turns ≡ n1.turns + 1 → n2.known ≡ n1.known
    → HasDone d v answer n2.known n3.known → n3.moves ≡ n2.moves → n3.turns ≡ n2.turns
    → HasPlayed gives d seeds role v ps n0 n3
has_played gives ledgers d seeds role v answer n0 n1 n2 n3 ps qs i h rest view answered may once same done moves3 turns3 =
    let own = fresh_own v n0.known n1.known h.fresh in
    let moves : n1.moves ≡ n0.moves = ap (λ (p : Plan). p.moves) rest in
    let turns : n1.turns ≡ n0.turns = ap (λ (p : Plan). p.turns) rest in
    record {
      view = n1.known;
      answer = answer;
      shown = view;
      whole =
          whole_known ledgers (party_planner d v n1) ps qs h.watching.tracks h.gone_on h.seen (h.watching.tracks.places ∙ sym i.tracks.places);
      grows = fresh_grows v n0.known n1.known h.fresh;
      begins = subst (λ k. HaveGrown k n3.known) same done.grown;
      own = own;
      called = λ a lt. done.called a lt ∙ ap (λ cs. take 32 (cs ++ arc_answer a answer)) (ap (λ k. sender_calls v (history k a)) same ∙ own a);
      answered = answered_as gives d seeds v n1.known answer n0 n1 n2 n3 role moves turns moves3 answered;
      may = may;
      turns = turns3 ∙ (once ∙ ap (λ t. t + 1) turns);
    }

-- The turn.
pub has_planned : {A E : Type 0} (gives : MayGive) (ledgers : List SharedState) (job : Job) (v : ℕ) (answer : Option (ℕ × Call)) (n0 n1 n2 n3 : Plan)
    (ps qs rs : List (Option PassState)) (r : Result A E) → IsView job.deal v n0.known → IsWatching ledgers (party_planner job.deal v n0) ps
    → HaveLooked ledgers (party_planner job.deal v n0) ps (length qs) (party_planner job.deal v n1) qs → plan_rest n1 ≡ plan_rest n0
    → IsPlanAnswer gives job.deal job.seeds v n1.known answer n1 n2 (job_role job v) → MayAnswer job.deal v answer
    → All (IsPartyMove job.deal job.seeds v) n2.moves → n2.turns ≡ n1.turns + 1 → n2.known ≡ n1.known → n3.moves ≡ n2.moves → n3.turns ≡ n2.turns
    → OnOk r (IsWatching ledgers (party_planner job.deal v n3) rs) → OnOk r (HasDone job.deal v answer n2.known n3.known)
    → OnOk r (HasPlanned gives job v n0 ps n3 rs)
has_planned gives ledgers job v answer n0 n1 n2 n3 ps qs rs (Ok u) view i h rest answered may moves once same moves3 turns3 watching done = record {
  shown = record { view = done.view; moves = subst (All (IsPartyMove job.deal job.seeds v)) (sym moves3) moves };
  seen = λ a p lt e. seen_of ledgers (party_planner job.deal v n3) rs a p watching.tracks lt e;
  played =
      has_played gives ledgers job.deal job.seeds (job_role job v) v answer n0 n1 n2 n3 ps qs i h rest (view_after ledgers job.deal v n0 n1 ps qs _ view i h)
      answered may once same done moves3 turns3;
}
has_planned gives ledgers job v answer n0 n1 n2 n3 ps qs rs (Err e) view i h rest answered may moves once same moves3 turns3 watching done = tt
