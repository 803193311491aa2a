-- A due unlock is for an arc and a lock of the deal, and its base is an arc on which the hashkey
-- was seen.
use Rattle.std.proofs.Common.{◌≡◌, ℕ, ◌<◌, Bool, true, false, cond, length, Option, Some, None, option_map, refl, sym, subst}
use Rattle.std.specs.Prelude.{IfSome}
use Rattle.swap_base.specs.Lists.{first_given_answer, IsElement}
use Rattle.swap_base.proofs.Lists.{first_at, in_from_moment, from_range}
use Rattle.swap_digraph.specs.declared.deal.Deal.{Deal}
use Rattle.swap_digraph.specs.Deal.{locks, leads}
use Rattle.hashkey_path.specs.declared.hashkey.Hashkey.{Hashkey}
use Rattle.ledger_core.specs.History.{opened}
use Rattle.ledger_core.specs.Book.{Histories, history}
use Rattle.swap_rules.specs.Party.{opens_without_party}
use Rattle.due_calls.proofs.First.{leaving_below, entering_below}
use Rattle.due_calls.specs.Unlocks.{first_seen_arc, IsSeenBase}
use Rattle.due_calls.specs.DueUnlock.{not_called, due_base, first_closed, unlock_due, next_due_unlock}
use Rattle.due_calls.specs.declared.unlock_due.Base.{Base}
use Rattle.due_calls.specs.declared.unlock_due.Base.TheVariants.{Signed, Own, Onto}
use Rattle.due_calls.specs.declared.unlock_due.UnlockDue.{UnlockDue}

pub record IsPlaced (d : Deal) (v : ℕ) (k : Histories) (u : UnlockDue) : Type 0 where
  pub base : IsSeenBase d v k u.lock u.base
  pub arc : u.arc < length d.graph.arcs
  pub lock : u.lock < length d.leaders

same_some : {A : Type 0} (x y : A) → Some x ≡ Some y → x ≡ y
same_some x y e = cc e

module _ (d : Deal) (v : ℕ) (k : Histories) (i : ℕ) where
  by_arc : (o : Option ℕ) (base : Base) → first_seen_arc d v k i ≡ o → option_map Onto o ≡ Some base → IsSeenBase d v k i base
  by_arc None base e h = absurd (cc h)
  by_arc (Some a) base e h =
      subst (IsSeenBase d v k i) (same_some (Onto a) base h) (
        leaving_below (λ a.
            opens_without_party v (opened (history k a) i)) d.graph.arcs v (Some a) (sym e),
        e,
      )

  by_lead : (b : Bool) (base : Base) → cond b (Some Own) (option_map Onto (first_seen_arc d v k i)) ≡ Some base → IsSeenBase d v k i base
  by_lead true base h = subst (IsSeenBase d v k i) (same_some Own base h) tt
  by_lead false base h = by_arc (first_seen_arc d v k i) base refl h

  by_signed : (signed : Option Hashkey) (base : Base) → due_base d v signed k i ≡ Some base → IsSeenBase d v k i base
  unfolding due_base
  by_signed (Some key) base h = subst (IsSeenBase d v k i) (same_some Signed base h) tt
  by_signed None base h = by_lead (leads d v i) base h

  by_parts : (signed : Option Hashkey) (a : Option ℕ) (b : Option Base) (u : UnlockDue) → i < length d.leaders → first_closed d v k i ≡ a
      → due_base d v signed k i ≡ b → unlock_due i a b ≡ Some u → IsPlaced d v k u
  by_parts signed None b u l e f h = absurd (cc h)
  by_parts signed (Some a) None u l e f h = absurd (cc h)
  by_parts signed (Some a) (Some base) u l e f h = subst (IsPlaced d v k) (same_some (record { arc = a; lock = i; base = base }) u h) (record {
    base = by_signed signed base f;
    arc = entering_below (not_called v k i) d.graph.arcs v (Some a) (sym e);
    lock = l;
  })

in_lock : (d : Deal) (v : ℕ) (signed : ℕ → Option Hashkey) (k : Histories) (i : ℕ) (u : UnlockDue) → i < length d.leaders
    → next_due_unlock d v signed k i ≡ Some u → IsPlaced d v k u
unfolding next_due_unlock
in_lock d v signed k i u l h = by_parts d v k i (signed i) (first_closed d v k i) (due_base d v (signed i) k i) u l refl refl h

pub placed : (d : Deal) (v : ℕ) (signed : ℕ → Option Hashkey) (k : Histories) (r : Option UnlockDue) → r ≡ first_given_answer (next_due_unlock d v signed k) (locks d)
    → IfSome r (IsPlaced d v k)
placed d v signed k None e = tt
placed d v signed k (Some u) e =
    let x = first_at (next_due_unlock d v signed k) (locks d) u (sym e) in
    let i = subst (IsElement x.now) (sym x.stands.1) (in_from_moment x.past x.now x.stands.0) in
    in_lock d v signed k x.now u (from_range x.now (length d.leaders) i) x.gives

pub some_more : {A : Type 0} (p q : A → Type 0) (o : Option A) → ((x : A) → p x → q x) → IfSome o p → IfSome o q
some_more p q None f h = tt
some_more p q (Some x) f h = f x h
