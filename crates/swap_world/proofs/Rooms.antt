-- Room for a further entry: in new ledgers, in a ledger in the place of another, and after a tick
-- of the ledgers that stand on a chain.
use Rattle.std.proofs.Common.{◌≡◌, ◌≢◌, ◌⊎◌, inl, inr, Result, Ok, Err, OnOk, ℕ, ◌+◌, ◌<◌, ◌≤◌, Bool, true, false, not, List, [], ◌∷◌, ◌++◌}
use Rattle.std.proofs.Common.{length, get_or, set, take, fold, refl, sym, ap, ◌∙◌, subst, arith, length-append}
use Rattle.std.specs.Result.{is_err}
use Rattle.std.specs.List.{All}
use Rattle.std.specs.List.Sorted.{IsStrictlyIncreasing}
use Rattle.std.proofs.lemmas.Bool.{false≢true}
use Rattle.std.proofs.lemmas.List.{length-map, length-set, get_or-set_same, get_or-set_other, get_or_append_left, get_or_at, same_lists}
use Rattle.std.proofs.lemmas.List.{get_or-map, get_or_default, length-replicate, get_or-replicate}
use Rattle.std.proofs.lemmas.List.{take_all}
use Rattle.std.proofs.lemmas.List.Elements.{All-head, All-tail}
use Rattle.std.proofs.lemmas.List.Kept.{AllPairs-from_increasing}
use Rattle.std.proofs.lemmas.List.Sums.{fold_more}
use Rattle.swap_digraph.specs.declared.deal.Deal.{Deal}
use Rattle.ledger_core.specs.Value.{LedgerState}
use Rattle.ledger_core.specs.History.{IsLegal}
use Rattle.ledger_core.specs.Book.{Histories}
use Rattle.swap_job.specs.declared.event.Event.TheVariants.{Tick}
use Rattle.swap_rules.proofs.Prefixes.{same_or_not}
use Rattle.swap_run.specs.Run.{Cast, State, after_tick, no_histories, step}
use Rattle.swap_run.specs.Laws.{IsReadyCast, IsGood}
use Rattle.swap_run.proofs.Good.{steps_are_good}
use Rattle.swap_world.specs.Acting.{histories, tick_book}
use Rattle.swap_world.specs.On.{tick_arcs}
use Rattle.swap_world.specs.Inside.{AreArcLedgers, IsArcLedger, new_ledger, IsNewLedger, AreNewLedgers, HaveRoom}
use Rattle.swap_world.proofs.Ledgers.{book_ok, moved, ledger_set}

pub on_from : (b : Bool) → not b ≡ false → b ≡ true
on_from true e = refl
on_from false e = absurd (false≢true (sym e))

-- A ledger in the place of another.

pub room_set : (ls : List LedgerState) (a : ℕ) (y : LedgerState) → HaveRoom ls → 0 < y.spare → HaveRoom (set ls a y)
room_set ls a y k r b x l e = at (same_or_not b a)
  where
    low : b < length ls
    low = subst (λ n. b < n) (length-set ls a y) l

    at : (b ≡ a) ⊎ (b ≢ a) → 0 < x.spare
    at (inl s) =
        let is : x ≡ y = e ∙ (ap (λ u. get_or (set ls a y) u x) s ∙ get_or-set_same ls a y x (subst (λ u. u < length ls) s low)) in
        subst (λ (z : LedgerState). 0 < z.spare) (sym is) r
    at (inr n) = k b x low (e ∙ get_or-set_other ls a b y x n)

-- where memory sufficed
pub room_on : {A E : Type 0} (r : Result A E) (ls : List LedgerState) (a : ℕ) (y : LedgerState) → HaveRoom ls → OnOk r (0 < y.spare)
    → OnOk r (HaveRoom (set ls a y))
room_on (Ok x) ls a y k h = room_set ls a y k h
room_on (Err e) ls a y k h = tt

pub room_unless : {A E : Type 0} (r : Result A E) (stopped : Bool) (ls : List LedgerState) → stopped ≡ is_err r → stopped ≡ false
    → OnOk r (HaveRoom ls) → HaveRoom ls
room_unless (Ok x) stopped ls is on h = h
room_unless (Err e) stopped ls is on h = absurd (false≢true (sym on ∙ is))

-- New ledgers.

pub none_new : (d : Deal) → AreNewLedgers d 0 []
none_new d = record { one_each = refl; each = λ a l lt e. absurd (omega arith) }

pub new_more : (d : Deal) (n : ℕ) (ls : List LedgerState) (y : LedgerState) → AreNewLedgers d n ls → IsNewLedger d n y
    → AreNewLedgers d (n + 1) (ls ++ y ∷ [])
new_more d n ls y k i = record {
  one_each = length-append ls (y ∷ []) ∙ ap (λ m. m + 1) k.one_each;
  each = λ a l lt e. at a l lt e (same_or_not a n);
}
  where
    at : (a : ℕ) (l : LedgerState) → a < length (ls ++ y ∷ []) → l ≡ get_or (ls ++ y ∷ []) a l → (a ≡ n) ⊎ (a ≢ n) → IsNewLedger d a l
    at a l lt e (inl s) =
        let is : l ≡ y = e ∙ get_or_at ls y [] l a (k.one_each ∙ sym s) in
        subst (λ (x : LedgerState). IsNewLedger d a x) (sym is) (subst (λ b. IsNewLedger d b y) (sym s) i)
    at a l lt e (inr w) =
        let q : ◌≢◌ {A = ℕ} a n = w in
        let m : length (ls ++ y ∷ []) ≡ length ls + 1 = length-append ls (y ∷ []) in
        let o : length ls ≡ n = k.one_each in
        let low : a < length ls = omega (arith, lt, m, o, q) in
        k.each a l low (e ∙ get_or_append_left ls (y ∷ []) l a low)

new_is : (d : Deal) (a : ℕ) (l : LedgerState) → IsNewLedger d a l → IsArcLedger d a l
new_is d a l k = record { deal = k.deal; arc = k.arc; legal = subst (IsLegal d a) (sym k.history) tt }

pub new_ledgers_of : (d d' : Deal) (ls : List LedgerState) → d' ≡ d → AreNewLedgers d (length d.graph.arcs) ls → AreArcLedgers d' ls
new_ledgers_of d d' ls e k =
    subst (λ x. AreArcLedgers x ls) (sym e) (record { one_each = k.one_each; each = λ a l lt is. new_is d a l (k.each a l lt is) })

pub new_room : (d : Deal) (n : ℕ) (ls : List LedgerState) → AreNewLedgers d n ls → HaveRoom ls
new_room d n ls k a l lt e = (k.each a l lt e).room

-- their histories are empty
pub new_histories : (d : Deal) (ls : List LedgerState) → AreNewLedgers d (length d.graph.arcs) ls → histories ls ≡ no_histories d
new_histories d ls k =
    let many : length (histories ls) ≡ length ls = length-map ls (λ (l : LedgerState). l.history) in
    let all : length (no_histories d) ≡ length d.graph.arcs = length-replicate (length d.graph.arcs) [] in
    same_lists (histories ls) (no_histories d) (many ∙ (k.one_each ∙ sym all)) (λ i x lt.
    let low : i < length ls = subst (λ n. i < n) many lt in
    let l : LedgerState = get_or ls i (new_ledger d 0) in
    let here : l ≡ get_or ls i l = get_or_default ls i (new_ledger d 0) l low in
    get_or-map (λ (l : LedgerState). l.history) ls i (new_ledger d 0) x low
    ∙ ((k.each i l low here).history ∙ sym (get_or-replicate (length d.graph.arcs) i [] x (subst (λ n. i < n) k.one_each low))))

-- A tick of the ledgers that stand on a chain.

-- The first i ledgers of a list have ticked, and the others are as they were. Where all are ready
-- each has room again.
pub record AreTicked (d : Deal) (on : List ℕ) (k : ℕ) (ready : Bool) (old new : List LedgerState) (i : ℕ) : Type 0 where
  pub ledgers : AreArcLedgers d new
  pub one_each : length new ≡ length old
  pub book : histories new ≡ fold (tick_book k) (histories old) (take i on)
  pub room : (a : ℕ) (l : LedgerState) → a < length new → l ≡ get_or new a l → ((j : ℕ) → j < i → get_or on j a ≡ a → ready ≡ true) → 0 < l.spare

module _ (d : Deal) (on : List ℕ) (k : ℕ) (old : List LedgerState) where
  pub none_ticked : AreArcLedgers d old → HaveRoom old → AreTicked d on k true old old 0
  none_ticked g h = record { ledgers = g; one_each = refl; book = refl; room = λ a l lt e q. h a l lt e }

  -- the next ledger of an ascending list is none of those before it
  pub next_room : (new : List LedgerState) (i x : ℕ) (ready : Bool) (l : LedgerState) → AreTicked d on k ready old new i → IsStrictlyIncreasing on
      → i < length on → x ≡ get_or on i x → x < length new → l ≡ get_or new x l → 0 < l.spare
  next_room new i x ready l t up below is li e =
      t.room x l li e (λ j lj same.
      let less : get_or on j x < get_or on i x = AllPairs-from_increasing on up j i x lj below in
      absurd (omega (arith, less, same, is)))

  pub one_ticked : (new : List LedgerState) (i x : ℕ) (ready has next : Bool) (l m : LedgerState) → AreTicked d on k ready old new i → i < length on
      → x ≡ get_or on i x → x < length new → l ≡ get_or new x l → m.history ≡ after_tick k l.history → m.deal ≡ l.deal → m.arc ≡ l.arc
      → IsLegal m.deal m.arc m.history → (has ≡ true → 0 < m.spare)
      → (next ≡ true → (ready ≡ true) × (has ≡ true)) → AreTicked d on k next old (set new x m) (i + 1)
  one_ticked new i x ready has next l m t below is li e h ed ea legal r both = record {
    ledgers = ledger_set d new x m t.ledgers li (moved d x l m (t.ledgers.each x l li e) ed ea legal);
    one_each = length-set new x m ∙ t.one_each;
    book =
        book_ok new x l m (after_tick k) li e h
        ∙ (ap (λ (b : Histories). tick_book k b x) t.book
        ∙ (ap (λ (y : ℕ). tick_book k (fold (tick_book k) (histories old) (take i on)) y) is ∙ sym (fold_more (tick_book k) (histories old) on i x below)));
    room = λ a y lt q f. at a y lt q f (same_or_not a x);
  }
    where
      at : (a : ℕ) (y : LedgerState) → a < length (set new x m) → y ≡ get_or (set new x m) a y
          → ((j : ℕ) → j < i + 1 → get_or on j a ≡ a → next ≡ true) → (a ≡ x) ⊎ (a ≢ x) → 0 < y.spare
      at a y lt q f (inl s) =
          let here : y ≡ m = q ∙ (ap (λ u. get_or (set new x m) u y) s ∙ get_or-set_same new x m y li) in
          let now : next ≡ true
          = subst (λ (z : ℕ). ((j : ℕ) → j < i + 1 → get_or on j z ≡ z → next ≡ true) → next ≡ true) (sym s) (λ h. h i (omega arith) (sym is)) f in
          subst (λ (z : LedgerState). 0 < z.spare) (sym here) (r (both now).1)
      at a y lt q f (inr n) =
          t.room a y (subst (λ n. a < n) (length-set new x m) lt) (q ∙ get_or-set_other new x a m y n)
          (λ j less same. (both (f j (omega (arith, less)) same)).0)

  pub all_ticked : (new : List LedgerState) (i : ℕ) (ready : Bool) → AreTicked d on k ready old new i → length on ≤ i
      → histories new ≡ fold (tick_book k) (histories old) on
  all_ticked new i ready t l = t.book ∙ ap (λ (xs : List ℕ). fold (tick_book k) (histories old) xs) (take_all i on l)

  pub all_room : (new : List LedgerState) (i : ℕ) (ready : Bool) → AreTicked d on k ready old new i → ready ≡ true → HaveRoom new
  all_room new i ready t e a l lt is = t.room a l lt is (λ j less same. e)

-- The state after it.

module _ (k : ℕ) (c : Cast) where
  -- ticks change the histories alone
  pub ticked_state : (s : State) (on : List ℕ) → tick_arcs on k c s ≡ record s { book = fold (tick_book k) s.book on }
  ticked_state s [] = refl
  ticked_state s (a ∷ on) = ticked_state (step c s (Tick a k)) on

  -- ticks leave a good state good
  pub ticked_good : (s : State) (on : List ℕ) → 1 ≤ k → k ≤ 1000000 → All (λ a. a < length c.deal.graph.arcs) on → IsReadyCast c → IsGood c s
      → IsGood c (tick_arcs on k c s)
  ticked_good s [] some few low ready g = g
  ticked_good s (a ∷ on) some few low ready g =
      ticked_good (step c s (Tick a k)) on some few (All-tail (λ a. a < length c.deal.graph.arcs) a on low) ready
      (steps_are_good c s (Tick a k) ready (record { arc = All-head (λ a. a < length c.deal.graph.arcs) a on low; some = some; few = few }) g)
