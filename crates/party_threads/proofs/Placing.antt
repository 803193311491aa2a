-- Passes that are put and taken, and ledgers that leave and come home.
use Rattle.std.proofs.Common.{◌≡◌, ◌≢◌, ◌⊎◌, ℕ, zero, suc, ◌+◌, ◌<◌, ◌≤◌, true, false, List, [], ◌∷◌, ◌++◌, length, map, take, drop, set, slice_get, get_or}
use Rattle.std.proofs.Common.{Option, Some, None, refl, sym, ap, ◌∙◌, subst, inl, inr, arith, length-append, append-nil, append_assoc, option_map}
use Rattle.std.proofs.Common.{eq-eqb, ne_eqb, ◌==◌, ◌||◌}
use Rattle.std.proofs.lemmas.Option.{none-some, same_Some, slice_get-map, slice_get-get_or}
use Rattle.std.proofs.lemmas.List.{length-set, length-map, get_or-set_same, get_or-set_other}
use Rattle.swap_base.proofs.Lists.{or-right}
use Rattle.swap_rules.proofs.Prefixes.{same_or_not}
use Rattle.atomic_table.specs.Seated.{TableId}
use Rattle.swap_digraph.specs.declared.deal.Deal.{Deal}
use Rattle.swap_digraph.specs.Deal.{party, counterparty, touches, IsWellSized}
use Rattle.ledger_core.specs.declared.entry.Entry.{Entry}
use Rattle.ledger_core.specs.History.{is_sender, IsLegal}
use Rattle.ledger_core.specs.Value.{LedgerState}
use Rattle.ledger_shared.specs.Value.{PassState, ClockState, SharedState, party_made, party_pass, table_clock, Closes, ClosesClock}
use Rattle.swap_rules.specs.Machine.{Knows}
use Rattle.swap_world.specs.Inside.{IsArcLedger}
use Rattle.party_threads.specs.declared.turn.Actor.{Actor}
use Rattle.party_threads.specs.declared.turn.Turn.{Turn}
use Rattle.party_threads.specs.Later.{arc_pass, arc_clock}
use Rattle.party_threads.specs.Turns.{numbered_actor, held_passes, held_clocks, turn_actor, held_pass, held_clock, arc_ledger, pass_start, IsBehind, AreBehind, AreHome}
use Rattle.party_threads.specs.Turns.{IsArcFree, AreFree, dealt_party_pass, dealt_shared_pass, dealt_clock, AreDealt, IsArcPass, IsSet, AreSet, IsClosed, IsShut, IsSameShape}
use Rattle.party_threads.specs.Turns.{IsPut, IsClockPut, IsSameBut}
use Rattle.party_threads.proofs.Sharing.{home_at, dealt_near, dealt_far}
use Rattle.party_threads.proofs.Turning.{none_pass}

-- Lists by place.

pub set_same : {A : Type 0} (xs : List A) (k : ℕ) (y : A) → k < length xs → slice_get (set xs k y) k ≡ Some y
set_same [] k y l = absurd (omega arith)
set_same (x ∷ xs) zero y l = refl
set_same (x ∷ xs) (suc k) y l = set_same xs k y (omega arith)

pub set_other : {A : Type 0} (xs : List A) (k j : ℕ) (y : A) → j ≢ k → slice_get (set xs k y) j ≡ slice_get xs j
set_other [] k j y n = refl
set_other (x ∷ xs) zero zero y n = absurd (n refl)
set_other (x ∷ xs) zero (suc j) y n = refl
set_other (x ∷ xs) (suc k) zero y n = refl
set_other (x ∷ xs) (suc k) (suc j) y n = set_other xs k j y (λ e. n (ap (λ m. suc m) e))

pub get_last : {A : Type 0} (xs : List A) (x : A) → slice_get (xs ++ x ∷ []) (length xs) ≡ Some x
get_last [] x = refl
get_last (y ∷ xs) x = get_last xs x

pub get_other : {A : Type 0} (xs : List A) (x : A) (j : ℕ) → j ≢ length xs → slice_get (xs ++ x ∷ []) j ≡ slice_get xs j
get_other [] x zero n = absurd (n refl)
get_other [] x (suc j) n = refl
get_other (y ∷ xs) x zero n = refl
get_other (y ∷ xs) x (suc j) n = get_other xs x j (λ e. n (ap (λ m. suc m) e))

pub get_past : {A : Type 0} (xs : List A) → slice_get xs (length xs) ≡ None
get_past [] = refl
get_past (x ∷ xs) = get_past xs

pub get_middle : {A : Type 0} (xs ys : List A) (y : A) → slice_get (xs ++ y ∷ ys) (length xs) ≡ Some y
get_middle [] ys y = refl
get_middle (x ∷ xs) ys y = get_middle xs ys y

take_own : {A : Type 0} (k rest : List A) → take (length k) (k ++ rest) ≡ k
take_own [] rest = refl
take_own (x ∷ k) rest = ap (λ w. x ∷ w) (take_own k rest)

drop_own : {A : Type 0} (k rest : List A) → drop (length k) (k ++ rest) ≡ rest
drop_own [] rest = refl
drop_own (x ∷ k) rest = drop_own k rest

-- What an actor knows, as a number of entries.

pub take_known : (v n : ℕ) (k h : List Entry) → Knows v k h → n ≡ length k → take n h ≡ k
take_known v n k h knows is = ap (λ m. take m h) is ∙ (ap (take (length k)) knows.whole ∙ take_own k knows.rest)

pub drop_known : (v n : ℕ) (k h : List Entry) → Knows v k h → n ≡ length k → (n ≤ length h) × (party_made v (drop n h) ≡ [])
drop_known v n k h knows is =
    let whole : length h ≡ length k + length knows.rest = ap length knows.whole ∙ length-append k knows.rest in (
      omega (arith, whole, is),
      ap (party_made v) (ap (λ m. drop m h) is ∙ (ap (drop (length k)) knows.whole ∙ drop_own k knows.rest))
          ∙ none_pass (λ (e : Entry). is_sender v e.sender) knows.rest knows.others,
    )

-- One end of an arc, as its ledger is shared: what its pass has seen is what it knows.
module _ (d : Deal) (a : ℕ) (l : LedgerState) (home : IsArcLedger d a l) (side : Deal → ℕ → ℕ) (x : Actor) (n w : ℕ) where
  pub share_at : IsBehind x (side d a) a l.history → w ≡ length l.history → ((h : List Entry) → length h ≡ w → n ≡ length (pass_start x a h))
      → (n ≤ length l.history) × (party_made (side l.deal l.arc) (drop n l.history) ≡ [])
  share_at behind whole seen =
      subst (λ u. (n ≤ length l.history) × (party_made u (drop n l.history) ≡ [])) (λ i. side (sym home.deal i) (sym home.arc i))
      (drop_known (side d a) n (pass_start x a l.history) l.history behind (seen l.history (sym whole)))

  pub pass_as : (lock : TableId) → IsBehind x (side d a) a l.history → w ≡ length l.history → ((h : List Entry) → length h ≡ w → n ≡ length (pass_start x a h))
      → party_pass lock l (side l.deal l.arc) (take n l.history) ≡ party_pass lock l (side d a) (pass_start x l.arc l.history)
  pass_as lock behind whole seen =
      let known : take n l.history ≡ pass_start x l.arc l.history =
      take_known (side d a) n (pass_start x a l.history) l.history behind (seen l.history (sym whole)) ∙ ap (λ b. pass_start x b l.history) (sym home.arc) in
      λ i. party_pass lock l (side (home.deal i) (home.arc i)) (known i)

-- One turn of a list is changed in its passes.
module _ (ts us : List Turn) (v : ℕ) (t u : Turn) (below : v < length ts) (there : slice_get ts v ≡ Some t) (is : us ≡ set ts v u) where
  at_it : slice_get us v ≡ Some u
  at_it = ap (λ xs. slice_get xs v) is ∙ set_same ts v u below

  off_it : (w : ℕ) → w ≢ v → slice_get us w ≡ slice_get ts w
  off_it w n = ap (λ xs. slice_get xs w) is ∙ set_other ts v w u n

  -- what both turns have alike stays everywhere
  kept : {A : Type 0} (f : Option Turn → A) → f (Some u) ≡ f (Some t) → (w : ℕ) → f (slice_get us w) ≡ f (slice_get ts w)
  kept f e w = go (same_or_not w v)
    where
      go : (w ≡ v) ⊎ (w ≢ v) → f (slice_get us w) ≡ f (slice_get ts w)
      go (inl s) = subst (λ x. f (slice_get us x) ≡ f (slice_get ts x)) (sym s) (ap f at_it ∙ (e ∙ ap f (sym there)))
      go (inr n) = ap f (off_it w n)

  number : length us ≡ length ts
  number = ap length is ∙ length-set ts v u

  pub is_put : (a : ℕ) (p : Option PassState) → u.actor ≡ t.actor → u.clocks.items ≡ t.clocks.items → u.passes.items ≡ set t.passes.items a p
      → a < length t.passes.items
      → IsPut ts v a p us
  is_put a p actor clocks passes lt = record {
    shape = record {
      number = number;
      actors = kept numbered_actor actor;
      places = kept (λ o. length (held_passes o)) (ap length passes ∙ length-set t.passes.items a p);
      clock_places = kept (λ o. length (held_clocks o)) (ap length clocks);
    };
    here = ap (λ o. arc_pass (held_passes o) a) at_it ∙ (ap (λ ps. arc_pass ps a) passes ∙ get_or-set_same t.passes.items a p None lt);
    others = λ w b n. ap (λ o. arc_pass (held_passes o) b) (off_it w n);
    elsewhere = λ w b n. kept (λ o. arc_pass (held_passes o) b) (ap (λ ps. arc_pass ps b) passes ∙ get_or-set_other t.passes.items a b p None n) w;
    clocks = λ w b. kept (λ o. arc_clock (held_clocks o) b) (ap (λ cs. arc_clock cs b) clocks) w;
  }

  pub is_clock_put : (a : ℕ) (p : Option ClockState) → u.actor ≡ t.actor → u.passes.items ≡ t.passes.items → u.clocks.items ≡ set t.clocks.items a p
      → a < length t.clocks.items → IsClockPut ts v a p us
  is_clock_put a p actor passes clocks lt = record {
    shape = record {
      number = number;
      actors = kept numbered_actor actor;
      places = kept (λ o. length (held_passes o)) (ap length passes);
      clock_places = kept (λ o. length (held_clocks o)) (ap length clocks ∙ length-set t.clocks.items a p);
    };
    here = ap (λ o. arc_clock (held_clocks o) a) at_it ∙ (ap (λ cs. arc_clock cs a) clocks ∙ get_or-set_same t.clocks.items a p None lt);
    elsewhere = λ w b n. kept (λ o. arc_clock (held_clocks o) b) (ap (λ cs. arc_clock cs b) clocks ∙ get_or-set_other t.clocks.items a b p None n) w;
    held = λ w b. kept (λ o. arc_pass (held_passes o) b) (ap (λ ps. arc_pass ps b) passes) w;
  }

-- a pass is put where the turn is the one at the place
pub put_at : (ts : List Turn) (v a : ℕ) (p q : Option PassState) (x u : Turn) → v < length ts → a < length (held_passes (slice_get ts v))
    → u.actor ≡ (get_or ts v x).actor → u.clocks.items ≡ (get_or ts v x).clocks.items → u.passes.items ≡ set (get_or ts v x).passes.items a q → q ≡ p
    → IsPut ts v a p (set ts v u)
put_at ts v a p q x u below place actor clocks passes is =
    let there : slice_get ts v ≡ Some (get_or ts v x) = slice_get-get_or ts v x below in
    is_put ts (set ts v u) v (get_or ts v x) u below there refl a p actor clocks (passes ∙ ap (set (get_or ts v x).passes.items a) is)
    (subst (λ o. a < length (held_passes o)) there place)

pub clock_put_at : (ts : List Turn) (v a : ℕ) (p q : Option ClockState) (x u : Turn) → v < length ts → a < length (held_clocks (slice_get ts v))
    → u.actor ≡ (get_or ts v x).actor → u.passes.items ≡ (get_or ts v x).passes.items → u.clocks.items ≡ set (get_or ts v x).clocks.items a q → q ≡ p
    → IsClockPut ts v a p (set ts v u)
clock_put_at ts v a p q x u below place actor passes clocks is =
    let there : slice_get ts v ≡ Some (get_or ts v x) = slice_get-get_or ts v x below in
    is_clock_put ts (set ts v u) v (get_or ts v x) u below there refl a p actor passes (clocks ∙ ap (set (get_or ts v x).clocks.items a) is)
    (subst (λ o. a < length (held_clocks o)) there place)

-- Shapes.

pub shape_self : (ts : List Turn) → IsSameShape ts ts
shape_self ts = record { number = refl; actors = λ v. refl; places = λ v. refl; clock_places = λ v. refl }

pub shape_more : (ts us ws : List Turn) → IsSameShape ts us → IsSameShape us ws → IsSameShape ts ws
shape_more ts us ws s r = record {
  number = r.number ∙ s.number;
  actors = λ v. r.actors v ∙ s.actors v;
  places = λ v. r.places v ∙ s.places v;
  clock_places = λ v. r.clock_places v ∙ s.clock_places v;
}

-- Three passes of one arc.
module _ (a u w n : ℕ) (p q : Option PassState) (c : Option ClockState) (t0 t1 t2 t3 : List Turn) (one : IsPut t0 u a p t1) (two : IsPut t1 w a q t2)
    (three : IsClockPut t2 n a c t3) where
  pub three_others : IsSameBut a t0 t3
  three_others = record {
    shape = shape_more t0 t2 t3 (shape_more t0 t1 t2 one.shape two.shape) three.shape;
    held = λ v b ne. three.held v b ∙ (two.elsewhere v b ne ∙ one.elsewhere v b ne);
    clocks = λ v b ne. three.elsewhere v b ne ∙ (two.clocks v b ∙ one.clocks v b);
  }

  pub three_second : held_pass t3 w a ≡ q
  three_second = three.held w a ∙ two.here

  pub three_first : u ≢ w → held_pass t3 u a ≡ p
  three_first apart = three.held u a ∙ (two.others u a apart ∙ one.here)

  pub three_else : (v : ℕ) → v ≢ u → v ≢ w → held_pass t3 v a ≡ held_pass t0 v a
  three_else v nu nw = three.held v a ∙ (two.others v a nw ∙ one.others v a nu)

  -- whatever holds of the two ends and of all others holds of each
  pub by_ends : (P : ℕ → Type 0) → P u → P w → ((v : ℕ) → v ≢ u → v ≢ w → P v) → (v : ℕ) → P v
  by_ends P at_u at_w others v = go (same_or_not v u) (same_or_not v w)
    where
      go : (v ≡ u) ⊎ (v ≢ u) → (v ≡ w) ⊎ (v ≢ w) → P v
      go (inl e) o = subst P (sym e) at_u
      go (inr nu) (inl e) = subst P (sym e) at_w
      go (inr nu) (inr nw) = others v nu nw

-- The ends of an arc.

pub party_touches : (d : Deal) (a : ℕ) → touches d (party d a) a ≡ true
party_touches d a = ap (λ b. b || (party d a == counterparty d a)) (eq-eqb (party d a) (party d a) refl)

pub counterparty_touches : (d : Deal) (a : ℕ) → touches d (counterparty d a) a ≡ true
counterparty_touches d a = or-right (counterparty d a == party d a) _ (eq-eqb (counterparty d a) (counterparty d a) refl)

pub else_far : (d : Deal) (v a : ℕ) → v ≢ party d a → v ≢ counterparty d a → touches d v a ≡ false
else_far d v a nu nw = ap (λ b. b || (v == counterparty d a)) (ne_eqb v (party d a) nu) ∙ ne_eqb v (counterparty d a) nw

-- The passes of one arc are dealt.
module _ (d : Deal) (a : ℕ) (lock : TableId) (l : LedgerState) (sized : IsWellSized d) (below : a < length d.graph.arcs) (home : IsArcLedger d a l)
    (p q : PassState) (c : ClockState) (t0 t1 t2 t3 : List Turn) (one : IsPut t0 (party d a) a (Some p) t1) (two : IsPut t1 (counterparty d a) a (Some q) t2)
    (three : IsClockPut t2 d.graph.n a (Some c) t3) (free : IsArcFree d t0 a)
    (first : p ≡ party_pass lock l (party d a) (pass_start (turn_actor t0 (party d a)) l.arc l.history))
    (second : q ≡ party_pass lock l (counterparty d a) (pass_start (turn_actor t0 (counterparty d a)) l.arc l.history)) where
  abbrev IsRight : ℕ → Type 0
  IsRight v = v < d.graph.n → held_pass t3 v a ≡ dealt_party_pass (turn_actor t0 v) v lock l

  pub all_dealt : (v : ℕ) → v < d.graph.n → held_pass t3 v a ≡ dealt_party_pass (turn_actor t0 v) v lock l
  all_dealt =
      by_ends a (party d a) (counterparty d a) d.graph.n (Some p) (Some q) (Some c) t0 t1 t2 t3 one two three IsRight
      (λ lv.
      three_first a (party d a) (counterparty d a) d.graph.n (Some p) (Some q) (Some c) t0 t1 t2 t3 one two three (sized.ends.apart a below)
      ∙ (ap (λ x. Some x) first ∙ sym (dealt_near d (turn_actor t0 (party d a)) (party d a) a lock l home (party_touches d a))))
      (λ lv.
      three_second a (party d a) (counterparty d a) d.graph.n (Some p) (Some q) (Some c) t0 t1 t2 t3 one two three
      ∙ (ap (λ x. Some x) second ∙ sym (dealt_near d (turn_actor t0 (counterparty d a)) (counterparty d a) a lock l home (counterparty_touches d a))))
      (λ v nu nw lv.
      three_else a (party d a) (counterparty d a) d.graph.n (Some p) (Some q) (Some c) t0 t1 t2 t3 one two three v nu nw
      ∙ (free.passes v lv ∙ sym (dealt_far d (turn_actor t0 v) v a lock l home (else_far d v a nu nw))))

-- The passes of one arc are taken back.
module _ (d : Deal) (a : ℕ) (lock : TableId) (sized : IsWellSized d) (below : a < length d.graph.arcs) (t0 : List Turn) (s : IsSet d t0 a lock) where
  from_below : party d a < d.graph.n
  from_below = sized.ends.from a below

  to_below : counterparty d a < d.graph.n
  to_below = sized.ends.to a below

  pub first_there : (p : PassState) × (held_pass t0 (party d a) a ≡ Some p)
  first_there = let n = s.near (party d a) from_below (party_touches d a) in (n.0, n.1)

  pub first_is : (p : PassState) → held_pass t0 (party d a) a ≡ Some p → IsArcPass d a lock (party d a) p
  first_is p e = let n = s.near (party d a) from_below (party_touches d a) in subst (IsArcPass d a lock (party d a)) (same_Some _ _ (sym n.1 ∙ e)) n.2

  pub second_is : (p : PassState) → held_pass t0 (counterparty d a) a ≡ Some p → IsArcPass d a lock (counterparty d a) p
  second_is p e =
      let n = s.near (counterparty d a) to_below (counterparty_touches d a) in subst (IsArcPass d a lock (counterparty d a)) (same_Some _ _ (sym n.1 ∙ e)) n.2

  module _ (t1 : List Turn) (one : IsPut t0 (party d a) a None t1) where
    abbrev apart : counterparty d a ≢ party d a
    apart e = sized.ends.apart a below (sym e)

    pub second_there : (p : PassState) × (held_pass t1 (counterparty d a) a ≡ Some p)
    second_there = let n = s.near (counterparty d a) to_below (counterparty_touches d a) in (n.0, one.others (counterparty d a) a apart ∙ n.1)

    pub second_was : (p : PassState) → held_pass t1 (counterparty d a) a ≡ Some p → held_pass t0 (counterparty d a) a ≡ Some p
    second_was p e = sym (one.others (counterparty d a) a apart) ∙ e

    module _ (t2 : List Turn) (two : IsPut t1 (counterparty d a) a None t2) where
      pub clock_there : (c : ClockState) × (held_clock t2 d.graph.n a ≡ Some c)
      clock_there = (s.clock.0, two.clocks d.graph.n a ∙ (one.clocks d.graph.n a ∙ s.clock.1))

      pub clock_was : (c : ClockState) → held_clock t2 d.graph.n a ≡ Some c → held_clock t0 d.graph.n a ≡ Some c
      clock_was c e = sym (two.clocks d.graph.n a ∙ one.clocks d.graph.n a) ∙ e

      pub clock_is_of : (c : ClockState) → held_clock t2 d.graph.n a ≡ Some c → c.lock ≡ lock
      clock_is_of c e = ap (λ (x : ClockState). x.lock) (same_Some _ _ (sym (clock_was c e) ∙ s.clock.1)) ∙ s.clock.2

      module _ (t3 : List Turn) (three : IsClockPut t2 d.graph.n a None t3) where
        pub all_free : IsArcFree d t3 a
        all_free = record {
          passes =
              by_ends a (party d a) (counterparty d a) d.graph.n None None None t0 t1 t2 t3 one two three (λ v. v < d.graph.n → held_pass t3 v a ≡ None)
              (λ lv. three_first a (party d a) (counterparty d a) d.graph.n None None None t0 t1 t2 t3 one two three (sized.ends.apart a below))
              (λ lv. three_second a (party d a) (counterparty d a) d.graph.n None None None t0 t1 t2 t3 one two three)
              (λ v nu nw lv.
              three_else a (party d a) (counterparty d a) d.graph.n None None None t0 t1 t2 t3 one two three v nu nw
              ∙ s.far v lv (else_far d v a nu nw));
          clock = three.here;
        }

        module _ (l : LedgerState) (p q : PassState) (c : ClockState) (held_p : held_pass t0 (party d a) a ≡ Some p)
            (held_q : held_pass t1 (counterparty d a) a ≡ Some q)
            (held_c : held_clock t2 d.graph.n a ≡ Some c) (close_p : Closes l p) (close_q : Closes l q) (close_c : ClosesClock l c)
            (legal : IsLegal l.deal l.arc l.history) where
          deal_is : l.deal ≡ d
          deal_is = close_p.deal ∙ (first_is p held_p).deal

          arc_is : l.arc ≡ a
          arc_is = close_p.arc ∙ (first_is p held_p).arc

          pub is_closed : IsClosed d t0 a l
          is_closed = record {
            home = record {
              deal = deal_is;
              arc = arc_is;
              legal = subst (λ e. IsLegal e a l.history) deal_is
                  (subst (λ b. IsLegal l.deal b l.history) arc_is legal);
            };
            passes = λ v x lv e.
                by_ends a (party d a) (counterparty d a) d.graph.n None None None t0 t1 t2 t3 one two three
                (λ w. w < d.graph.n → (y : PassState) → held_pass t0 w a ≡ Some y → Closes l y)
                (λ lw y f. subst (Closes l) (same_Some _ _ (sym held_p ∙ f)) close_p)
                (λ lw y f. subst (Closes l) (same_Some _ _ (sym (second_was q held_q) ∙ f)) close_q)
                (λ w nu nw lw y f. absurd (none-some _ (sym (s.far w lw (else_far d w a nu nw)) ∙ f)))
                v lv x e;
            clock = λ x e. subst (ClosesClock l) (same_Some _ _ (sym (clock_was c held_c) ∙ e)) close_c;
          }

pub map_append : {A B : Type 0} (f : A → B) (xs ys : List A) → map f (xs ++ ys) ≡ map f xs ++ map f ys
map_append f [] ys = refl
map_append f (x ∷ xs) ys = ap (λ w. f x ∷ w) (map_append f xs ys)

-- The loop that deals.

pub record IsDealing (d : Deal) (ls0 : List (Option LedgerState)) (ts0 : List Turn) (k : ℕ) (ls : List (Option LedgerState)) (ts : List Turn)
    (shared : List SharedState) : Type 0 where
  pub shape : IsSameShape ts0 ts
  pub dealt : AreDealt d ts (map (λ (x : SharedState). x.lock) shared) ls0
  pub many : length shared ≡ k
  pub within : k ≤ length d.graph.arcs
  pub number : length ls ≡ length ls0
  pub left : (a : ℕ) → k ≤ a → arc_ledger ls a ≡ arc_ledger ls0 a

pub deal_begins : (d : Deal) (ls : List (Option LedgerState)) (ts : List Turn) (k : ℕ) (shared : List SharedState) → k ≡ 0 → shared ≡ [] → AreFree d ts
    → IsDealing d ls ts k ls ts shared
deal_begins d ls ts k shared ek es free = record {
  shape = shape_self ts;
  dealt = subst (λ (x : List SharedState). AreDealt d ts (map (λ (y : SharedState). y.lock) x) ls) (sym es) (record {
    passes = λ v a lv lt. (free a lt).passes v lv;
    clocks = λ a lt. (free a lt).clock;
  });
  many = ap length es ∙ sym ek;
  within = subst (λ j. j ≤ length d.graph.arcs) (sym ek) (omega arith);
  number = refl;
  left = λ a le. refl;
}

module _ (d : Deal) (ls0 : List (Option LedgerState)) (ts0 : List Turn) (k : ℕ) (ls : List (Option LedgerState)) (ts : List Turn) (shared : List SharedState)
    (i : IsDealing d ls0 ts0 k ls ts shared) (below : k < length d.graph.arcs) where
  abbrev locks : List TableId
  locks = map (λ (x : SharedState). x.lock) shared

  count : length locks ≡ k
  count = length-map shared (λ (x : SharedState). x.lock) ∙ i.many

  nothing_at : slice_get locks k ≡ None
  nothing_at = subst (λ j. slice_get locks j ≡ None) count (get_past locks)

  pub there_still : AreHome d ls0 → (l : LedgerState) × (arc_ledger ls k ≡ Some l)
  there_still home = let l = home_at d ls0 k home below in (l.0, i.left k (omega arith) ∙ l.1)

  pub is_home : AreHome d ls0 → (l : LedgerState) → arc_ledger ls k ≡ Some l → IsArcLedger d k l
  is_home home l at =
      let h = home_at d ls0 k home below in
      subst (IsArcLedger d k) (same_Some _ _ (sym h.1 ∙ (sym (i.left k (omega arith)) ∙ at))) h.2

  pub was_home : (l : LedgerState) → arc_ledger ls k ≡ Some l → arc_ledger ls0 k ≡ Some l
  was_home l at = sym (i.left k (omega arith)) ∙ at

  pub behind_still : AreBehind d ts0 ls0 → (l : LedgerState) → arc_ledger ls k ≡ Some l → (v : ℕ) → v < d.graph.n → IsBehind (turn_actor ts v) v k l.history
  behind_still behind l at v lv = subst (λ x. IsBehind x v k l.history) (sym (i.shape.actors v)) (behind v k l lv below (was_home l at))

  pub free_still : IsArcFree d ts k
  free_still = record {
    passes = λ v lv. i.dealt.passes v k lv below ∙ ap (λ o. dealt_shared_pass (turn_actor ts v) v o (arc_ledger ls0 k)) nothing_at;
    clock = i.dealt.clocks k below ∙ ap (λ o. dealt_clock o (arc_ledger ls0 k)) nothing_at;
  }

  module _ (ls' : List (Option LedgerState)) (ts' : List Turn) (shared' : List SharedState) (l : LedgerState) (s : SharedState) (at : arc_ledger ls k ≡ Some l)
      (many : length ls' ≡ length ls) (left : (a : ℕ) → a ≢ k → arc_ledger ls' a ≡ arc_ledger ls a)
      (dealt : (v : ℕ) → v < d.graph.n → held_pass ts' v k ≡ dealt_party_pass (turn_actor ts v) v s.lock l)
      (clock : held_clock ts' d.graph.n k ≡ Some (table_clock s.lock l)) (others : IsSameBut k ts ts') (is : shared' ≡ shared ++ s ∷ []) where
    locks_now : map (λ (x : SharedState). x.lock) shared' ≡ locks ++ s.lock ∷ []
    locks_now = ap (map (λ (x : SharedState). x.lock)) is ∙ map_append (λ (x : SharedState). x.lock) shared (s ∷ [])

    lock_last : slice_get (locks ++ s.lock ∷ []) k ≡ Some s.lock
    lock_last = subst (λ j. slice_get (locks ++ s.lock ∷ []) j ≡ Some s.lock) count (get_last locks s.lock)

    lock_before : (a : ℕ) → a ≢ k → slice_get (locks ++ s.lock ∷ []) a ≡ slice_get locks a
    lock_before a n = get_other locks s.lock a (λ e. n (e ∙ count))

    abbrev Here : ℕ → ℕ → Type 0
    Here v a = held_pass ts' v a ≡ dealt_shared_pass (turn_actor ts' v) v (slice_get (locks ++ s.lock ∷ []) a) (arc_ledger ls0 a)

    here_now : (v : ℕ) → v < d.graph.n → Here v k
    here_now v lv =
        dealt v lv ∙ sym (ap (λ o. dealt_shared_pass (turn_actor ts' v) v o (arc_ledger ls0 k)) lock_last
        ∙ (ap (dealt_shared_pass (turn_actor ts' v) v (Some s.lock)) (was_home l at) ∙ ap (λ x. dealt_party_pass x v s.lock l) (others.shape.actors v)))

    there_now : (v a : ℕ) → v < d.graph.n → a < length d.graph.arcs → a ≢ k → Here v a
    there_now v a lv lt n =
        others.held v a n ∙ (i.dealt.passes v a lv lt ∙ (ap (λ o. dealt_shared_pass (turn_actor ts v) v o (arc_ledger ls0 a)) (sym (lock_before a n))
        ∙ ap (λ x. dealt_shared_pass x v (slice_get (locks ++ s.lock ∷ []) a) (arc_ledger ls0 a)) (sym (others.shape.actors v))))

    at_now : (v a : ℕ) → v < d.graph.n → a < length d.graph.arcs → (a ≡ k) ⊎ (a ≢ k) → Here v a
    at_now v a lv lt (inl e) = subst (Here v) (sym e) (here_now v lv)
    at_now v a lv lt (inr n) = there_now v a lv lt n

    abbrev Clocked : ℕ → Type 0
    Clocked a = held_clock ts' d.graph.n a ≡ dealt_clock (slice_get (locks ++ s.lock ∷ []) a) (arc_ledger ls0 a)

    clock_now : (a : ℕ) → a < length d.graph.arcs → (a ≡ k) ⊎ (a ≢ k) → Clocked a
    clock_now a lt (inl e) =
        subst Clocked (sym e) (clock ∙ sym (ap (λ o. dealt_clock o (arc_ledger ls0 k)) lock_last ∙ ap (dealt_clock (Some s.lock)) (was_home l at)))
    clock_now a lt (inr n) =
        others.clocks d.graph.n a n ∙ (i.dealt.clocks a lt ∙ ap (λ o. dealt_clock o (arc_ledger ls0 a)) (sym (lock_before a n)))

    pub deal_goes_on : IsDealing d ls0 ts0 (k + 1) ls' ts' shared'
    deal_goes_on = record {
      shape = shape_more ts0 ts ts' i.shape others.shape;
      dealt = subst (λ ks. AreDealt d ts' ks ls0) (sym locks_now) (record {
        passes = λ v a lv lt. at_now v a lv lt (same_or_not a k);
        clocks = λ a lt. clock_now a lt (same_or_not a k);
      });
      many = ap length is ∙ (length-append shared (s ∷ []) ∙ ap (λ n. n + 1) i.many);
      within = omega (arith, below);
      number = many ∙ i.number;
      left = λ a le. left a (λ e. omega (arith, e, le)) ∙ i.left a (omega (arith, le));
    }

-- The loop that closes.

pub record IsClosing (d : Deal) (ts0 : List Turn) (all rest : List SharedState) (ls : List (Option LedgerState)) (ts : List Turn) : Type 0 where
  pub shape : IsSameShape ts0 ts
  pub gone : List SharedState
  pub whole : rest ++ gone ≡ all
  pub number : length ls ≡ length d.graph.arcs
  pub shut : (a : ℕ) → length rest ≤ a → a < length d.graph.arcs → IsShut d ts0 a (arc_ledger ls a)
  pub free : (a : ℕ) → length rest ≤ a → a < length d.graph.arcs → IsArcFree d ts a
  pub left : (v a : ℕ) → a < length rest → held_pass ts v a ≡ held_pass ts0 v a
  pub clocks : (v a : ℕ) → a < length rest → held_clock ts v a ≡ held_clock ts0 v a

pub close_begins : (d : Deal) (ts : List Turn) (all : List SharedState) (ls : List (Option LedgerState)) → length all ≡ length d.graph.arcs
    → length ls ≡ length d.graph.arcs
    → IsClosing d ts all all ls ts
close_begins d ts all ls many number = record {
  shape = shape_self ts;
  gone = [];
  whole = append-nil all;
  number = number;
  shut = λ a le lt. absurd (omega (arith, le, lt, many));
  free = λ a le lt. absurd (omega (arith, le, lt, many));
  left = λ v a lt. refl;
  clocks = λ v a lt. refl;
}

module _ (d : Deal) (ts0 : List Turn) (all rest rest' : List SharedState) (ls : List (Option LedgerState)) (ts : List Turn) (s : SharedState)
    (i : IsClosing d ts0 all rest ls ts) (is : rest ≡ rest' ++ s ∷ []) (many : length all ≡ length d.graph.arcs) where
  longer : length rest ≡ length rest' + 1
  longer = ap length is ∙ length-append rest' (s ∷ [])

  whole : rest' ++ s ∷ i.gone ≡ all
  whole = sym (append_assoc rest' (s ∷ []) i.gone) ∙ (ap (λ w. w ++ i.gone) (sym is) ∙ i.whole)

  pub place_below : length rest' < length d.graph.arcs
  place_below = let n = length-append rest' (s ∷ i.gone) in let w = ap length whole in omega (arith, n, w, many)

  lock_here : slice_get (map (λ (x : SharedState). x.lock) all) (length rest') ≡ Some s.lock
  lock_here =
      slice_get-map (λ (x : SharedState). x.lock) all (length rest')
      ∙ ap (λ o. option_map (λ (x : SharedState). x.lock) o) (ap (λ w. slice_get w (length rest')) (sym whole) ∙ get_middle rest' i.gone s)

  pub set_here : AreSet d ts0 (map (λ (x : SharedState). x.lock) all) → IsSet d ts (length rest') s.lock
  set_here set =
      let k = set (length rest') s.lock lock_here in
      let lt : length rest' < length rest = let n = longer in omega (arith, n) in
      record {
        near = λ v lv t. let x = k.near v lv t in (x.0, i.left v (length rest') lt ∙ x.1, x.2);
        far = λ v lv t. i.left v (length rest') lt ∙ k.far v lv t;
        clock = (k.clock.0, i.clocks d.graph.n (length rest') lt ∙ k.clock.1, k.clock.2);
      }

  module _ (ls' : List (Option LedgerState)) (ts' : List Turn) (l : LedgerState) (closed : IsClosed d ts (length rest') l)
      (free : IsArcFree d ts' (length rest'))
      (others : IsSameBut (length rest') ts ts') (at : arc_ledger ls' (length rest') ≡ Some l) (number : length ls' ≡ length ls)
      (left : (a : ℕ) → a ≢ length rest' → arc_ledger ls' a ≡ arc_ledger ls a) where
    shut_here : IsClosed d ts0 (length rest') l
    shut_here =
        let lt : length rest' < length rest = let n = longer in omega (arith, n) in
        record {
          home = closed.home;
          passes = λ v p lv e. closed.passes v p lv (i.left v (length rest') lt ∙ e);
          clock = λ p e. closed.clock p (i.clocks d.graph.n (length rest') lt ∙ e);
        }

    shut_now : (a : ℕ) → length rest' ≤ a → a < length d.graph.arcs → (a ≡ length rest') ⊎ (a ≢ length rest') → IsShut d ts0 a (arc_ledger ls' a)
    shut_now a le lt (inl e) = subst (λ b. IsShut d ts0 b (arc_ledger ls' b)) (sym e) (subst (IsShut d ts0 (length rest')) (sym at) shut_here)
    shut_now a le lt (inr n) = subst (IsShut d ts0 a) (sym (left a n)) (i.shut a (let m = longer in omega (arith, m, le, n)) lt)

    free_now : (a : ℕ) → length rest' ≤ a → a < length d.graph.arcs → (a ≡ length rest') ⊎ (a ≢ length rest') → IsArcFree d ts' a
    free_now a le lt (inl e) = subst (IsArcFree d ts') (sym e) free
    free_now a le lt (inr n) =
        let f = i.free a (let m = longer in omega (arith, m, le, n)) lt in
        record { passes = λ v lv. others.held v a n ∙ f.passes v lv; clock = others.clocks d.graph.n a n ∙ f.clock }

    pub close_goes_on : IsClosing d ts0 all rest' ls' ts'
    close_goes_on = record {
      shape = shape_more ts0 ts ts' i.shape others.shape;
      gone = s ∷ i.gone;
      whole = whole;
      number = number ∙ i.number;
      shut = λ a le lt. shut_now a le lt (same_or_not a (length rest'));
      free = λ a le lt. free_now a le lt (same_or_not a (length rest'));
      left = λ v a lt. others.held v a (λ e. omega (arith, e, lt)) ∙ i.left v a (let m = longer in omega (arith, m, lt));
      clocks = λ v a lt. others.clocks v a (λ e. omega (arith, e, lt)) ∙ i.clocks v a (let m = longer in omega (arith, m, lt));
    }
