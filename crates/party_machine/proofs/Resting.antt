-- A machine that rests may: nothing is due when it begins to, and it ends with what could make
-- something due.
use Rattle.std.proofs.Common.{◌≡◌, ℕ, zero, suc, ◌+◌, ◌*◌, ◌==◌, ◌&&◌, count_by, zero-add, ◌≤◌, nat_le, Bool, true}
use Rattle.std.proofs.Common.{false, cond, List, [], ◌∷◌, ◌++◌, get_or, set}
use Rattle.std.proofs.Common.{Option, Some, None, is_some, option_map, refl, sym, ap, ◌∙◌, subst, leb-true, arith, ◌<◌, length}
use Rattle.std.specs.Prelude.{Result, Ok, Err, OnOk, OnErr}
use Rattle.std.specs.Prelude.{map, filter}
use Rattle.std.proofs.Math.Seq.{map-set_same}
use Rattle.std.proofs.lemmas.Bool.{ne_eqb}
use Rattle.std.proofs.lemmas.List.Folds.{list_all-append}
use Rattle.std.proofs.lemmas.List.Sums.{sum_by-cons}
use Rattle.swap_digraph.specs.declared.deal.Deal.{Deal}
use Rattle.ledger_core.specs.declared.entry.Call.{Call}
use Rattle.ledger_core.specs.declared.entry.What.{What}
use Rattle.ledger_core.specs.declared.entry.What.TheVariants.{Call as Made, Tick}
use Rattle.ledger_core.specs.declared.entry.Entry.{Entry}
use Rattle.ledger_core.specs.Facts.{is_call}
use Rattle.escrow_core.specs.declared.reply.Reply.TheVariants.{Accepted}
use Rattle.ledger_core.specs.declared.runs.Run.{Run}
use Rattle.ledger_core.specs.Ledger.{tick_entry}
use Rattle.ledger_core.specs.Runs.{ticks_above, run_ticks}
use Rattle.ledger_core.specs.History.{height}
use Rattle.ledger_core.specs.Book.{Histories, history}
use Rattle.history_index.specs.Value.{IndexState}
use Rattle.swap_digraph.specs.Graph.{leaving}
use Rattle.swap_rules.specs.Party.{least_expiry}
use Rattle.swap_rules.specs.Due.{Action, due, first}
use Rattle.swap_rules.specs.Rest.{are_ticks, is_ticking, least_number, rest_deadline}
use Rattle.swap_rules.proofs.Rest.{reads, same_waiting, same_expiry, rests_below, ticks_make_nothing_due}
use Rattle.party_wallet.specs.Value.{signed_hashkey}
use Rattle.party_wallet.specs.Value.{WalletState}
use Rattle.party_machine.specs.Wallet.{seed_wallet}
use Rattle.party_machine.specs.Machine.{MachineState, due_action, learnt, next_due}
use Rattle.party_machine.specs.Rest.{rest_end_height, remaining_rest, EndsByExpiry, IsAtRest, MayRest}
use Rattle.party_machine.specs.Within.{all_entries, IsReadyWallet}
use Rattle.party_machine.specs.declared.rest.Rest.{Rest}
use Rattle.party_machine.specs.declared.rest.Rest.TheVariants.{Awake, Until}
use Rattle.party_machine.proofs.MachineEntries.{one_each, released_history, called_shows}

-- what is awake may be
pub awake : (r : Rest) (s : MachineState) → r ≡ Awake → MayRest r s
awake r s e = subst (λ x. MayRest x s) (sym e) tt

-- Rest begins.

none_of : (o : Option (ℕ × Call)) (r : Option Action) → option_map due_action o ≡ r → is_some o ≡ false → r ≡ None
none_of None r e n = sym e
none_of (Some x) r e n = absurd (cc n)

pub begins : (s : MachineState) (o : Option (ℕ × Call)) (until : Option ℕ) → option_map due_action o ≡ next_due s → is_some o ≡ false
    → until ≡ rest_deadline s.deal s.me s.known
    → MayRest (Until until) s
begins s o until e n u = (
  u,
  record {
    nothing = none_of o (next_due s) e n;
    ends = λ a i waits.
        let b = rests_below s.deal s.me s.known a i waits in
        subst (λ t. EndsByExpiry t (least_expiry s.deal a (history s.known a))) (sym (u ∙ b.1)) b.2;
  },
)

-- Rest, by the machine's own word for it.

ends_late : (until : Option ℕ) (t : ℕ) → EndsByExpiry until t → EndsByExpiry (Some (rest_end_height until)) t
ends_late None t e = absurd e
ends_late (Some u) t e = e

pub rests_late : (r : Rest) (until : Option ℕ) (s : MachineState) → r ≡ Until until → MayRest r s → IsAtRest (Some (rest_end_height until)) s
rests_late r until s e m =
    let n : IsAtRest until s = (subst (λ x. MayRest x s) e m).1 in
    record { nothing = n.nothing; ends = λ a i waits. ends_late until (least_expiry s.deal a (history s.known a)) (n.ends a i waits) }

pub least_late : (r : Rest) (until : Option ℕ) (s : MachineState) → r ≡ Until until → MayRest r s
    → rest_end_height until ≡ rest_end_height (rest_deadline s.deal s.me s.known)
least_late r until s e m = ap rest_end_height (subst (λ x. MayRest x s) e m).0

-- Rest goes on.

first_none : (xs : List Action) → first xs ≡ None → xs ≡ []
first_none [] e = refl
first_none (x ∷ xs) e = absurd (cc e)

pub still : (until : Option ℕ) (s : MachineState) (a : ℕ) (more : List Entry) → are_ticks more ≡ true
    → ((e : ℕ) → EndsByExpiry until e → height (history s.known a ++ more) ≤ e)
    → IsAtRest until s → IsAtRest until (learnt s a more)
still until s a more ticks low r =
    let w = seed_wallet s.seed s.me s.deal in
    let signed = signed_hashkey s.signed in
    let before = s.known in
    let after = set s.known a (history s.known a ++ more) in
    let same = reads s.deal s.me w signed before a more ticks in
    let none = first_none (due s.deal s.me w signed before) r.nothing in
    record {
      nothing =
          ap first (ticks_make_nothing_due s.deal s.me w signed before a more ticks none (λ i waits.
          low (least_expiry s.deal a (history before a)) (r.ends a i waits)));
      ends =
          λ c i waits. subst (EndsByExpiry until) (sym (same_expiry s.deal s.me before after same c))
          (r.ends c i (sym (same_waiting s.deal s.me before after same c) ∙ waits));
    }

-- ticks leave the height up to which it rests as it was
same_height : (s : MachineState) (a : ℕ) (more : List Entry) → are_ticks more ≡ true
    → rest_deadline s.deal s.me (set s.known a (history s.known a ++ more)) ≡ rest_deadline s.deal s.me s.known
same_height s a more ticks =
    let before = s.known in
    let after = set s.known a (history s.known a ++ more) in
    let same = reads s.deal s.me (seed_wallet s.seed s.me s.deal) (signed_hashkey s.signed) before a more ticks in
    λ j. least_number (map (λ c. same_expiry s.deal s.me before after same c j)
    (filter (λ c. same_waiting s.deal s.me before after same c j) (leaving s.deal.graph s.me)))

goes_still : (until : Option ℕ) (s : MachineState) (a : ℕ) (more : List Entry) → are_ticks more ≡ true
    → ((e : ℕ) → EndsByExpiry until e → height (history s.known a ++ more) ≤ e)
    → MayRest (Until until) s → MayRest (Until until) (learnt s a more)
goes_still until s a more ticks low m = (m.0 ∙ sym (same_height s a more ticks), still until s a more ticks low m.1)

pub goes_on : (r : Rest) (s : MachineState) (a : ℕ) (more : List Entry) (ticks : Bool) (at : ℕ) → ticks ≡ are_ticks more
    → at ≡ height (history s.known a ++ more) → MayRest r s → MayRest (remaining_rest r ticks at) (learnt s a more)
goes_on Awake s a more true at t h m = tt
goes_on Awake s a more false at t h m = tt
goes_on (Until None) s a more false at t h m = tt
goes_on (Until (Some until)) s a more false at t h m = tt
goes_on (Until None) s a more true at t h m = goes_still None s a more (sym t) (λ e b. absurd b) m
goes_on (Until (Some until)) s a more true at t h m = go (nat_le at until) refl
  where
    go : (b : Bool) → nat_le at until ≡ b → MayRest (cond b (Until (Some until)) Awake) (learnt s a more)
    go false q = tt
    go true q = goes_still (Some until) s a more (sym t) (λ e b. let below : at ≤ until = leb-true at until q in omega arith) m

-- where nothing was learnt
pub stays : (r : Rest) (s : MachineState) (ticks : Bool) (at : ℕ) → MayRest r s → MayRest (remaining_rest r ticks at) s
stays Awake s true at m = tt
stays Awake s false at m = tt
stays (Until None) s false at m = tt
stays (Until (Some until)) s false at m = tt
stays (Until None) s true at m = m
stays (Until (Some until)) s true at m = go (nat_le at until)
  where
    go : (b : Bool) → MayRest (cond b (Until (Some until)) Awake) s
    go false = tt
    go true = m

-- what a machine of these parts shows
abbrev pub shown : Deal → WalletState → List IndexState → MachineState
shown d w known = record { deal = d; me = w.party; seed = w.seed; known = all_entries known; signed = w.signed }

pub learns : {A E : Type 0} (rest : Rest) (d : Deal) (w : WalletState) (known : List IndexState) (a : ℕ) (x y : IndexState) (more : List Entry)
    (r : Result A E) (ticks : Bool) (at : ℕ)
    → IsReadyWallet d w known → MayRest rest (shown d w known) → a < length d.graph.arcs → x ≡ get_or known a x → OnOk r (y.entries ≡ x.entries ++ more)
    → OnErr r (y ≡ x)
    → ticks ≡ are_ticks more → at ≡ height y.entries → MayRest (remaining_rest rest ticks at) (shown d w (set known a y))
learns {A = A} {E = E} rest d w known a x y more (Ok u) ticks at ready m lt e ok err t h =
    let here : history (all_entries known) a ≡ x.entries = released_history known a x (rw (one_each d w known ready) lt) e in
    let up : at ≡ height (history (all_entries known) a ++ more) = h ∙ ap height (ok ∙ ap (λ (z : List Entry). z ++ more) (sym here)) in
    let after = called_shows {A = A} {E = E} d w known a x y more (Ok u) ready lt e ok in
    subst (MayRest (remaining_rest rest ticks at)) (sym after) (goes_on rest (shown d w known) a more ticks at t up m)
learns rest d w known a x y more (Err u) ticks at ready m lt e ok err t h =
    let same : all_entries (set known a y) ≡ all_entries known = map-set_same (λ z. z.entries) known a y x (ap (λ (z : IndexState). z.entries) (err ∙ e)) in
    let at_known = λ (b : Histories). MayRest (remaining_rest rest ticks at) (record { deal = d; me = w.party; seed = w.seed; known = b; signed = w.signed }) in
    subst at_known (sym same) (stays rest (shown d w known) ticks at m)

-- Entries without a call are ticks.

first_no_call : (w : What) (n : ℕ) (b : Bool) → (n == 0) ≡ b → ((cond (is_call w) 1 0 + n) == 0) ≡ (is_ticking w && b)
first_no_call (Made c) n b e = ne_eqb (1 + n) 0 (λ z. omega arith)
first_no_call (Tick k) n b e = ap (λ m. m == 0) (zero-add n) ∙ e

pub no_calls : (h : List Entry) → (count_by (λ e. is_call e.what) h == 0) ≡ are_ticks h
no_calls [] = refl
no_calls (e ∷ h) =
    ap (λ n. n == 0) (sum_by-cons (λ x. cond (is_call x.what) 1 0) e h)
    ∙ first_no_call e.what (count_by (λ e. is_call e.what) h) (are_ticks h) (no_calls h)

-- a run is all ticks

ticks_above_are : (at k n : ℕ) → are_ticks (ticks_above at k n) ≡ true
ticks_above_are at k zero = refl
ticks_above_are at k (suc n) =
    list_all-append (λ e. is_ticking e.what) (ticks_above at k n) (tick_entry k (at + k * suc n) Accepted ∷ [])
    ∙ ap (λ b. b && true) (ticks_above_are at k n)

pub are_all_ticks : (r : Run) → are_ticks (run_ticks r) ≡ true
are_all_ticks r = ticks_above_are r.above r.by r.count
