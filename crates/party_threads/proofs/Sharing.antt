-- What was dealt, as the turns begin and as they end.
use Rattle.std.proofs.Common.{◌≡◌, ℕ, ◌<◌, true, false, List, length, slice_get, Option, Some, None, refl, sym, ap, ◌∙◌, subst, arith, if◌then◌else◌}
use Rattle.std.proofs.lemmas.Option.{slice_get_within}
use Rattle.atomic_table.specs.Seated.{TableId}
use Rattle.swap_digraph.specs.declared.deal.Deal.{Deal}
use Rattle.swap_digraph.specs.Deal.{touches}
use Rattle.ledger_core.specs.declared.entry.Entry.{Entry}
use Rattle.ledger_core.specs.Value.{LedgerState}
use Rattle.ledger_shared.specs.Value.{PassState, ClockState, party_pass, table_clock}
use Rattle.swap_world.specs.Inside.{IsArcLedger}
use Rattle.party_threads.specs.declared.turn.Actor.{Actor}
use Rattle.party_threads.specs.declared.turn.Turn.{Turn}
use Rattle.party_threads.specs.Later.{IsLater, IsClockLater, Advanced}
use Rattle.party_threads.specs.Ticks.{ClockAdvanced}
use Rattle.party_threads.specs.Turns.{turn_actor, held_pass, held_clock, arc_ledger, pass_start, IsHome, AreHome, HavePlaces, dealt_party_pass, dealt_shared_pass, dealt_clock}
use Rattle.party_threads.specs.Turns.{AreDealt, IsArcPass, AreSet}
use Rattle.party_threads.proofs.Turning.{get_there, HasTaken}

-- The ledger of an arc.

pub make_ledger : (d : Deal) (a : ℕ) (o : Option LedgerState) → IsHome d a o → (l : LedgerState) × (o ≡ Some l) × IsArcLedger d a l
make_ledger d a None h = absurd h
make_ledger d a (Some l) h = (l, refl, h)

pub home_at : (d : Deal) (ls : List (Option LedgerState)) (a : ℕ) → AreHome d ls → a < length d.graph.arcs
    → (l : LedgerState) × (arc_ledger ls a ≡ Some l) × IsArcLedger d a l
home_at d ls a h lt = make_ledger d a (arc_ledger ls a) (h.each a lt)

-- What is dealt at arc a.

pub dealt_near : (d : Deal) (x : Actor) (v a : ℕ) (lock : TableId) (l : LedgerState) → IsArcLedger d a l → touches d v a ≡ true
    → dealt_party_pass x v lock l ≡ Some (party_pass lock l v (pass_start x l.arc l.history))
dealt_near d x v a lock l k near =
    let t : touches l.deal v l.arc ≡ true = subst (λ b. touches l.deal v b ≡ true) (sym k.arc) (subst (λ e. touches e v a ≡ true) (sym k.deal) near) in
    ap (λ b. if b then Some (party_pass lock l v (pass_start x l.arc l.history)) else None) t

pub dealt_far : (d : Deal) (x : Actor) (v a : ℕ) (lock : TableId) (l : LedgerState) → IsArcLedger d a l → touches d v a ≡ false → dealt_party_pass x v lock l ≡ None
dealt_far d x v a lock l k far =
    let t : touches l.deal v l.arc ≡ false = subst (λ b. touches l.deal v b ≡ false) (sym k.arc) (subst (λ e. touches e v a ≡ false) (sym k.deal) far) in
    ap (λ b. if b then Some (party_pass lock l v (pass_start x l.arc l.history)) else None) t

module _ (d : Deal) (ts : List Turn) (locks : List TableId) (ls : List (Option LedgerState)) (home : AreHome d ls) (dealt : AreDealt d ts locks ls)
    (many : length locks ≡ length d.graph.arcs) where
  pub lock_at : (a : ℕ) → a < length d.graph.arcs → (lock : TableId) × (slice_get locks a ≡ Some lock)
  lock_at a lt = get_there locks a (subst (λ n. a < n) (sym many) lt)

  -- the pass of v at arc a, which is that of the ledger
  pub held_is : (v a : ℕ) (lock : TableId) (l : LedgerState) → v < d.graph.n → a < length d.graph.arcs → slice_get locks a ≡ Some lock
      → arc_ledger ls a ≡ Some l
      → held_pass ts v a ≡ dealt_party_pass (turn_actor ts v) v lock l
  held_is v a lock l lv lt at_lock at_ledger =
      dealt.passes v a lv lt ∙ (ap (λ o. dealt_shared_pass (turn_actor ts v) v o (arc_ledger ls a)) at_lock ∙ ap (λ o. dealt_shared_pass (turn_actor ts v) v (Some lock) o) at_ledger)

  pub clock_is : (a : ℕ) (lock : TableId) (l : LedgerState) → a < length d.graph.arcs → slice_get locks a ≡ Some lock → arc_ledger ls a ≡ Some l
      → held_clock ts d.graph.n a ≡ Some (table_clock lock l)
  clock_is a lock l lt at_lock at_ledger = dealt.clocks a lt ∙ (ap (λ o. dealt_clock o (arc_ledger ls a)) at_lock
      ∙ ap (dealt_clock (Some lock)) at_ledger)

  pub held_near : (v a : ℕ) (lock : TableId) (l : LedgerState) → v < d.graph.n → a < length d.graph.arcs → slice_get locks a ≡ Some lock
      → arc_ledger ls a ≡ Some l
      → IsArcLedger d a l → touches d v a ≡ true → held_pass ts v a ≡ Some (party_pass lock l v (pass_start (turn_actor ts v) l.arc l.history))
  held_near v a lock l lv lt at_lock at_ledger k near = held_is v a lock l lv lt at_lock at_ledger ∙ dealt_near d (turn_actor ts v) v a lock l k near

  pub held_far : (v a : ℕ) → v < d.graph.n → a < length d.graph.arcs → touches d v a ≡ false → held_pass ts v a ≡ None
  held_far v a lv lt far =
      let l = home_at d ls a home lt in
      let k = lock_at a lt in
      held_is v a k.0 l.0 lv lt k.1 l.1 ∙ dealt_far d (turn_actor ts v) v a k.0 l.0 l.2 far

  -- After the turns, whatever came of them.
  module _ (us : List Turn) (places : HavePlaces d ts) (taken : (v : ℕ) → v < length ts → HasTaken (slice_get ts v) (slice_get us v)) where
    below_all : (v : ℕ) → v < d.graph.n → v < length ts
    below_all v l = let n = places.actors in omega (arith, n, l)

    clock_below : d.graph.n < length ts
    clock_below = let n = places.actors in omega (arith, n)

    pub went_from : (v a : ℕ) (p : PassState) → v < d.graph.n → held_pass ts v a ≡ Some p → (q : PassState) × (held_pass us v a ≡ Some q) × IsLater p q
    went_from v a p lv e = subst (λ o. Advanced o (held_pass us v a)) e ((taken v (below_all v lv)).passes a)

    pub went_none : (v a : ℕ) → v < d.graph.n → held_pass ts v a ≡ None → held_pass us v a ≡ None
    went_none v a lv e = subst (λ o. Advanced o (held_pass us v a)) e ((taken v (below_all v lv)).passes a)

    pub clock_went : (a : ℕ) (p : ClockState) → held_clock ts d.graph.n a ≡ Some p
        → (q : ClockState) × (held_clock us d.graph.n a ≡ Some q) × IsClockLater p q
    clock_went a p e = subst (λ o. ClockAdvanced o (held_clock us d.graph.n a)) e ((taken d.graph.n clock_below).clocks a)

    later_at : (a v : ℕ) (lock : TableId) (l : LedgerState) (h : List Entry) (q : PassState) → IsArcLedger d a l → IsLater (party_pass lock l v h) q
        → IsArcPass d a lock v q
    later_at a v lock l h q k later = record {
      lock_is = ap (λ (x : PassState). x.lock) later.1;
      deal = ap (λ (x : PassState). x.deal) later.1 ∙ k.deal;
      arc = ap (λ (x : PassState). x.arc) later.1 ∙ k.arc;
      party = ap (λ (x : PassState). x.party) later.1;
    }

    pub are_set : AreSet d us locks
    are_set a lock at_lock =
        let lt : a < length d.graph.arcs = subst (λ n. a < n) many (slice_get_within locks a lock at_lock) in
        let l = home_at d ls a home lt in
        record {
          near = λ v lv near.
              let w = went_from v a _ lv (held_near v a lock l.0 lv lt at_lock l.1 l.2 near) in
              (w.0, w.1, later_at a v lock l.0 _ w.0 l.2 w.2);
          far = λ v lv far. went_none v a lv (held_far v a lv lt far);
          clock =
              let w = clock_went a _ (clock_is a lock l.0 lt at_lock l.1) in
              (w.0, w.1, ap (λ (x : ClockState). x.lock) w.2.1);
        }
