-- Rounds in which nobody makes a call: what rests goes on resting, and ticks alone lead to where
-- they lead once a round follows.
use Rattle.std.proofs.Common.{◌≡◌, ◌≢◌, ◌⊎◌, inl, inr, ℕ, zero, suc, ◌+◌, ◌<◌, ◌≤◌, arith, Bool, true, false, ◌&&◌, List, [], ◌∷◌, ◌++◌, length, get_or}
use Rattle.std.proofs.Common.{set, drop, slice_index_or, Option, Some, None, refl, sym, ap, ap₂, ◌∙◌, subst, append-nil, append_assoc, length-append}
use Rattle.std.specs.List.{All}
use Rattle.std.proofs.lemmas.Bool.{false≢true}
use Rattle.std.proofs.lemmas.List.{length-set}
use Rattle.std.proofs.lemmas.List.Elements.{All-head, All-tail, All-weaker}
use Rattle.std.proofs.lemmas.List.Folds.{list_all-append}
use Rattle.swap_base.specs.Lists.{IsElement}
use Rattle.swap_digraph.specs.declared.deal.Deal.{Deal}
use Rattle.ledger_core.specs.declared.entry.Entry.{Entry}
use Rattle.ledger_core.specs.Value.{LedgerState}
use Rattle.ledger_core.specs.History.{height}
use Rattle.ledger_core.specs.Book.{Histories, history}
use Rattle.swap_job.specs.declared.job.Role.{Role}
use Rattle.swap_job.specs.declared.job.Role.TheVariants as kinds
use Rattle.party_wallet.specs.Value.{signed_hashkey}
use Rattle.swap_rules.specs.Due.{Wallet, due, first}
use Rattle.swap_rules.specs.Machine.{Begins}
use Rattle.swap_rules.specs.Rest.{are_ticks, is_ticking}
use Rattle.swap_rules.proofs.Prefixes.{same_or_not}
use Rattle.swap_rules.proofs.Conducting.{history_same, history_other}
use Rattle.party_machine.specs.Wallet.{seed_wallet}
use Rattle.party_machine.specs.Machine.{MachineState, learnt}
use Rattle.party_machine.specs.Rest.{IsAtRest}
use Rattle.party_machine.proofs.Resting.{still}
use Rattle.swap_run.specs.Asked.{Answers, with_answers}
use Rattle.swap_run.specs.Run.{Cast, Notes, Question, State, conforms, party_role, is_planned, state_notes}
use Rattle.swap_run.specs.Fair.{repeat, adjacent_arcs, the_horizon, ticks, is_above_horizon}
use Rattle.swap_run.specs.Quiet.{overlaid_histories, IsIdle}
use Rattle.swap_run.specs.Steps.{IsSkipped}
use Rattle.swap_run.specs.Laws.{IsReadyCast, IsGood}
use Rattle.swap_run.proofs.Quiet.{Risen, rises, stays_low, notes_kept}
use Rattle.swap_run.proofs.Skipped.{is_skipped, none_skipped}
use Rattle.swap_world.specs.Cast.{signing_wallet}
use Rattle.swap_world.specs.Acting.{histories}
use Rattle.swap_world.specs.Inside.{IsPartyActor, ArePartyActors, AreArcLedgers}
use Rattle.swap_world.specs.Quiet.{IsRaised, AreRaised, IsQuietState, IsLow, IsCalm, IsCalmActor, IsReadyActor, HaveArcs}
use Rattle.wallet_journal.specs.Journal.{JournalState}
use Rattle.wallet_journal.specs.Memory.{DiskState}
use Rattle.swap_world.specs.Players.{Actor}
use Rattle.swap_world.specs.declared.player.Player.TheVariants.{Conforming, Planned, Manual}
use Rattle.swap_world.proofs.WholeHistory.{whole}
use Rattle.swap_world.proofs.States.{IsAt, c, s, notes_at}
use Rattle.swap_world.proofs.Worlds.{begins}
use Rattle.swap_world.proofs.Finishes.{near_low}

-- an element in its place, whatever else would stand there
pub any_default : {A : Type 0} (xs : List A) (k : ℕ) (x y : A) → k < length xs → get_or xs k x ≡ get_or xs k y
any_default [] k x y l = absurd (omega (arith, l))
any_default (z ∷ xs) zero x y l = refl
any_default (z ∷ xs) (suc k) x y l = any_default xs k x y (omega (arith, l))

-- Fewer rounds.

low_less : (seen until n m : ℕ) (h : List Entry) → m ≤ n → IsLow seen until n h → IsLow seen until m h
low_less seen until n m h l k = let x = k.low in record { ticks = k.ticks; low = omega (arith, l, x) }

pub all_low_less : (until n m : ℕ) (known b : Histories) (xs : List ℕ) → m ≤ n → All (λ a. IsLow (length (history known a)) until n (history b a)) xs
    → All (λ a. IsLow (length (history known a)) until m (history b a)) xs
all_low_less until n m known b xs l h =
    All-weaker (λ a. IsLow (length (history known a)) until n (history b a)) (λ a. IsLow (length (history known a)) until m (history b a))
    (λ a k. low_less (length (history known a)) until n m (history b a) l k) xs h

calm_less : (n m : ℕ) (b : Histories) (near : List ℕ) (x : MachineState) → m ≤ n → IsCalm n b near x → IsCalm m b near x
calm_less n m b near x l k = record { until = k.until; rests = k.rests; low = all_low_less k.until n m x.known b near l k.low }

pub actor_less : (n m : ℕ) (b : Histories) (near : List ℕ) (x : Actor) → m ≤ n → IsCalmActor n b near x → IsCalmActor m b near x
actor_less n m b near (Conforming x j) l k = calm_less n m b near x l k
actor_less n m b near (Planned x) l k = k
actor_less n m b near Manual l k = k

-- what was seen is no more than what there is
pub seen_less : {A : Type 0} (k h : List A) → Begins k h → length k ≤ length h
seen_less {A = A} k h b =
    let e : length h ≡ length k + length b.0 = ap (λ (z : List A). length z) b.1 ∙ length-append k b.0 in
    omega (arith, e)

-- A machine rests over looks that show ticks alone.

-- what is fresh of arc a is ticks, and doesn't bring its ledger above height t
record IsFresh (k : Histories) (a t : ℕ) (h : List Entry) : Type 0 where
  pub more : List Entry
  pub ticks : are_ticks more ≡ true
  pub is : h ≡ history k a ++ more
  pub low : height h ≤ t

fresh_after : (k b : Histories) (a x t : ℕ) → (x ≡ a) ⊎ (x ≢ a) → x < length k → IsFresh k x t (history b x)
    → IsFresh (set k a (history b a)) x t (history b x)
fresh_after k b a x t (inl e) l f =
    subst (λ z. IsFresh (set k z (history b z)) x t (history b x)) e (record {
      more = [];
      ticks = refl;
      is = sym (append-nil (history (set k x (history b x)) x) ∙ history_same k x (history b x) l);
      low = f.low;
    })
fresh_after k b a x t (inr apart) l f = record {
  more = f.more;
  ticks = f.ticks;
  is = f.is ∙ ap (λ (z : List Entry). z ++ f.more) (sym (history_other k a x (history b a) apart));
  low = f.low;
}

abbrev knowing : MachineState → Histories → MachineState
knowing m k = record { deal = m.deal; me = m.me; seed = m.seed; known = k; signed = m.signed }

rests_over : (t : ℕ) (m : MachineState) (b k : Histories) (js : List ℕ) → IsAtRest (Some t) (knowing m k)
    → ((x : ℕ) → IsElement x js → IsFresh k x t (history b x)) → ((x : ℕ) → IsElement x js → x < length k)
    → IsAtRest (Some t) (knowing m (overlaid_histories b js k))
rests_over t m b k [] r f l = r
rests_over t m b k (a ∷ js) r f l =
    let here = f a (inl refl) in
    let is : set k a (history b a) ≡ set k a (history k a ++ here.more) = ap (λ (h : List Entry). set k a h) here.is in
    let high : height (history k a ++ here.more) ≤ t = subst (λ (h : List Entry). height h ≤ t) here.is here.low in
    let rest : IsAtRest (Some t) (learnt (knowing m k) a here.more)
    = still (Some t) (knowing m k) a here.more here.ticks (λ e ends. let x : t ≤ e = ends in omega (arith, high, x)) r in
    rests_over t m b (set k a (history b a)) js (subst (λ (z : Histories). IsAtRest (Some t) (knowing m z)) (sym is) rest)
    (λ x i. fresh_after k b a x t (same_or_not x a) (l x (inr i)) (f x (inr i))) (λ x i. rw (length-set k a (history b a)) (l x (inr i)))

all_in : {A : Type 0} (P : A → Type 0) (xs : List A) (x : A) → All P xs → IsElement x xs → P x
all_in P [] x h i = absurd i
all_in P (y ∷ xs) x h (inl e) = subst P (sym e) (All-head P y xs h)
all_in P (y ∷ xs) x h (inr i) = all_in P xs x (All-tail P y xs h) i

-- A world in which nobody makes a call.
module _ (d : Deal) (conforming : List Bool) (seeds : List (Option (List ℕ))) (roles : List Role) (qs : List Question) (ls : List LedgerState)
    (xs : List Actor) (ready : IsReadyCast (c d conforming seeds roles qs ls xs))
    (good : IsGood (c d conforming seeds roles qs ls xs) (s d conforming seeds roles qs ls xs)) where
  abbrev cast : Cast
  cast = c d conforming seeds roles qs ls xs

  abbrev now : State
  now = s d conforming seeds roles qs ls xs

  abbrev book : Histories
  book = histories ls

  machine_idles : (n i : ℕ) (p : ℕ) (m : MachineState) (o : JournalState DiskState) (after : Histories) → i < n → p < d.graph.n
      → IsAt d conforming seeds roles qs ls xs p m o
      → IsCalm n book (adjacent_arcs d p) m → AreRaised i book after → IsIdle cast after p (state_notes now p)
  machine_idles n i p m o after l lp at calm raised =
      let near = adjacent_arcs d p in
      let k = m.known in
      let noted : state_notes now p ≡ record { known = k; signed = m.signed } = notes_at d conforming seeds roles qs ls xs p m o at in
      let long : length k ≡ length d.graph.arcs = ap (λ (z : Notes). length z.known) (sym noted) ∙ (good.notes p lp at.is.0).one_each in
      let low : All (λ a. a < length d.graph.arcs) near = near_low d p in
      let fresh = λ (x : ℕ) (j : IsElement x near).
      let b = begins d conforming seeds roles qs ls xs ready good p lp m o at x in
      let quiet = all_in (λ a. IsLow (length (history k a)) calm.until n (history book a)) near x calm.low j in
      let lx : x < length d.graph.arcs = all_in (λ a. a < length d.graph.arcs) near x low j in
      let r = raised x (subst (λ z. x < z) (sym good.legal.one_each) lx) in
      fresh_by k after book x calm.until n i l b quiet r in
      let rests = rests_over calm.until m after k near calm.rests fresh
      (λ x j. subst (λ z. x < z) (sym long) (all_in (λ a. a < length d.graph.arcs) near x low j)) in
      let w : cast.wallet p ≡ seed_wallet m.seed m.me m.deal
      = ap (λ (o : Option (List ℕ)). signing_wallet o p d) at.is.3 ∙ ap₂ (λ (v : ℕ) (e : Deal). seed_wallet m.seed v e) (sym at.is.2) (sym at.is.1) in
      let none : first (due d p (cast.wallet p) (signed_hashkey m.signed) (overlaid_histories after near k)) ≡ None
      = ap (λ (w : Wallet). first (due d p w (signed_hashkey m.signed) (overlaid_histories after near k))) w
      ∙ ap₂ (λ (v : ℕ) (e : Deal). first (due e v (seed_wallet m.seed m.me m.deal) (signed_hashkey m.signed) (overlaid_histories after near k))) (sym at.is.2)
      (sym at.is.1)
      ∙ rests.nothing in
      subst (IsIdle cast after p) (sym noted) none
    where
      fresh_by : (k after b : Histories) (x until n i : ℕ) → i < n → Begins (history k x) (history b x)
          → IsLow (length (history k x)) until n (history b x) → IsRaised i (history b x) (history after x) → IsFresh k x until (history after x)
      fresh_by k after b x until n i l starts quiet r =
          let more = drop (length (history k x)) (history b x) in
          let low = quiet.low in
          let high = r.high in
          record {
            more = more ++ r.more;
            ticks = list_all-append (λ e. is_ticking e.what) more r.more ∙ ap₂ (λ u v. u && v) quiet.ticks r.ticks;
            is = r.is ∙ ap (λ (z : List Entry). z ++ r.more) (sym (whole (history k x) (history b x) starts)) ∙ append_assoc (history k x) more r.more;
            low = omega (arith, low, high, l);
          }

  idles_by : (n i : ℕ) (p : ℕ) (x : Actor) (after : Histories) → i < n → p < d.graph.n → p < length xs → x ≡ get_or xs p x
      → IsPartyActor d (slice_index_or conforming p false) (slice_index_or seeds p None) (slice_index_or roles p kinds.Manual) p x
      → conforms cast p ≡ true → IsCalmActor n book (adjacent_arcs d p) x → AreRaised i book after → IsIdle cast after p (state_notes now p)
  idles_by n i p (Conforming m j) after l lp lx here is cp calm raised =
      machine_idles n i p m j after l lp (record { below = lx; here = here; is = is }) calm raised
  idles_by n i p (Planned x) after l lp lx here is cp calm raised = absurd calm
  idles_by n i p Manual after l lp lx here is cp calm raised = absurd (false≢true (sym is.0 ∙ cp))

  plain_by : (n p : ℕ) (x : Actor)
      → IsPartyActor d (slice_index_or conforming p false) (slice_index_or seeds p None) (slice_index_or roles p kinds.Manual) p x
      → conforms cast p ≡ false → IsCalmActor n book (adjacent_arcs d p) x → is_planned (party_role cast p) ≡ false
  plain_by n p (Conforming m j) is cp calm = absurd (false≢true (sym cp ∙ is.0))
  plain_by n p (Planned x) is cp calm = absurd calm
  plain_by n p Manual is cp calm = is.1

  -- rounds in which nobody makes a call
  pub rests : (n : ℕ) → ArePartyActors d conforming seeds roles xs
      → ((v : ℕ) (x : Actor) → v < length xs → IsCalmActor n book (adjacent_arcs d v) (slice_index_or xs v x)) → IsQuietState cast n now
  rests n actors calm =
      let at = λ (v : ℕ) (lv : v < d.graph.n). subst (λ z. v < z) (sym actors.one_each) lv in
      let x = λ (v : ℕ). get_or xs v Manual in
      let here = λ (v : ℕ) (lv : v < d.graph.n). any_default xs v Manual (x v) (at v lv) in
      record {
        noted = good.one_each;
        plain = λ v lv cv. plain_by n v (x v) (actors.each v (x v) (at v lv) (here v lv)) cv (calm v Manual (at v lv));
        idle = λ i after l raised v lv cv.
            idles_by n i v (x v) after l lv (at v lv) (here v lv) (actors.each v (x v) (at v lv) (here v lv)) cv (calm v Manual (at v lv)) raised;
      }

  ready_by : (p : ℕ) (x : Actor) → AreArcLedgers d ls → p < d.graph.n → p < length xs → x ≡ get_or xs p x
      → IsPartyActor d (slice_index_or conforming p false) (slice_index_or seeds p None) (slice_index_or roles p kinds.Manual) p x
      → IsReadyActor (length ls) book (adjacent_arcs d p) x
  ready_by p (Conforming m j) ledgers lp lx here is =
      let at : IsAt d conforming seeds roles qs ls xs p m j = record { below = lx; here = here; is = is } in
      let places : HaveArcs (length ls) m.deal (adjacent_arcs d p) = record {
        one_each = ledgers.one_each ∙ ap (λ (e : Deal). length e.graph.arcs) (sym is.1);
        each = subst (λ (e : Deal). All (λ a. a < length e.graph.arcs) (adjacent_arcs d p)) (sym is.1) (near_low d p);
      } in
      (places, λ a. begins d conforming seeds roles qs ls xs ready good p lp m j at a)
  ready_by p (Planned x) ledgers lp lx here is = tt
  ready_by p Manual ledgers lp lx here is = tt

  -- what is asked before
  pub are_ready : AreArcLedgers d ls → ArePartyActors d conforming seeds roles xs → (v : ℕ) (x : Actor) → v < length xs
      → IsReadyActor (length ls) book (adjacent_arcs d v) (slice_index_or xs v x)
  are_ready ledgers actors v x l =
      let y = get_or xs v x in
      let here = any_default xs v x y l in
      ready_by v y ledgers (subst (λ z. v < z) actors.one_each l) l here (actors.each v y l here)

raised_by : (n : ℕ) (h after : List Entry) → Risen n h after → IsRaised n h after
raised_by n h after r = record { more = r.more; ticks = r.ticks; is = r.is; high = r.high }

-- rounds in which nobody acts, and one more round, where a ledger stays low
pub skips : (c : Cast) (n : ℕ) (s : State) (g : Answers) → IsReadyCast c → IsGood c s → is_above_horizon c.deal s.book ≡ false
    → (0 < n → 0 < length c.deal.graph.arcs) → (0 < n → height (history s.book 0) + n ≤ the_horizon c.deal) → (0 < n → IsQuietState c n s)
    → IsSkipped (with_answers c g) n s
skips c zero s g ready good on some low still = none_skipped (with_answers c g) s on
skips c (suc k) s g ready good on some low still =
    let n = suc k in
    let more : 0 < n = omega arith in
    let x = with_answers c g in
    let quiet = still more in
    is_skipped x quiet.plain n s quiet.noted
    (stays_low x n s 0 (some more) (subst (λ z. 0 < z) (sym good.legal.one_each) (some more)) (low more))
    (λ i l v lv cv.
    subst (IsIdle x (repeat i (ticks x) s).book v) (ap (λ (ns : List Notes). slice_index_or ns v (record { known = []; signed = [] })) (sym (notes_kept x i s)))
    (quiet.idle i (repeat i (ticks x) s).book l (λ a la. raised_by i (history s.book a) _ (rises x i s a la)) v lv cv))
