-- What a party needs of a history is legal and short.
use Rattle.std.proofs.Common.{◌≡◌, ◌⊎◌, ℕ, ◌+◌, ◌*◌, ◌≤◌, nat_lt, nat_le, Bool, true, false, cond, not, ◌||◌, List, [], ◌∷◌, ◌++◌, length, map, filter}
use Rattle.std.proofs.Common.{count_by, refl, sym, ap, ap₂, ◌∙◌, subst, inl, inr, arith, ltb-true, ltb-false, le-ltb}
use Rattle.std.proofs.Math.ListN.{get_or-map as get_or-map_at}
use Rattle.std.proofs.lemmas.Bool.{lt-leb}
use Rattle.std.proofs.lemmas.List.{length-map, get_or_past}
use Rattle.std.proofs.lemmas.List.Sums.{sum_by-cons}
use Rattle.swap_base.specs.Lists.{IsElement}
use Rattle.swap_base.proofs.Lists.{grow, at_moment, all_moments_front, all_moments_push, from_filter}
use Rattle.swap_digraph.specs.declared.deal.Deal.{Deal}
use Rattle.escrow_core.specs.declared.reply.Reply.{Reply}
use Rattle.escrow_core.specs.declared.reply.Reply.TheVariants.{Accepted, ClockFull}
use Rattle.ledger_core.specs.declared.entry.Sender.{Sender}
use Rattle.ledger_core.specs.declared.entry.Sender.TheVariants.{Party, Clock}
use Rattle.ledger_core.specs.declared.entry.What.{What}
use Rattle.ledger_core.specs.declared.entry.What.TheVariants.{Call as Made, Tick}
use Rattle.ledger_core.specs.declared.entry.Entry.{Entry}
use Rattle.ledger_core.specs.History.{entry_ticks, height, accepted, is_sender, is_tick, IsLegal, IsLegalEntry, IsLegalMoment}
use Rattle.ledger_core.specs.Book.{Histories, history, IsLegalBook}
use Rattle.ledger_core.proofs.Bounds.{run_ticks, ticks-push, height-push}
use Rattle.swap_rules.specs.Party.{is_arc_correct}
use Rattle.swap_rules.specs.Rest.{is_ticking}
use Rattle.swap_rules.proofs.Prefixes.{begins_refl}
use Rattle.wallet_promise.specs.WithoutNoise.{is_of_contract, is_told, is_useless, is_needed, needed_history, needs, all_needed, merged, call_count, SaysTheSame}
use Rattle.wallet_promise.specs.WithoutNoise.{AreUseless, SayEnough}
use Rattle.wallet_promise.specs.WithoutNoise.{IsTrueEntry, IsTrueMoment, IsChain, IsTrueClock, HasTrueClock, IsNeededChain, IsNeededBook}
use Rattle.wallet_promise.specs.BookLaws.{KeepsLedgerLimits, MergedSaysEnough, ChainIsNeeded, NeededIsLegal, NeededIsShort, NeededCanBeTold}
use Rattle.wallet_promise.proofs.Filters.{filter-on, filter-off, sum_by-filter, sum_by-part}
use Rattle.wallet_promise.proofs.Telling.{no_ticks}
use Rattle.wallet_promise.proofs.Needed.{part_is, length-parts, all_told, ticks, useless_is_ticks, needed_says_enough}
use Rattle.wallet_promise.proofs.Legal.{telling_is_legal}
use Rattle.wallet_promise.proofs.Merged.{says_merged, merged_is_legal, says_on}
use Rattle.wallet_promise.proofs.Short.{merged_short, telling_is_short}

-- The ticks of a history are legal.

ticks_height : (h : List Entry) → height (ticks h) ≡ height h
ticks_height h = sum_by-filter (λ e. is_ticking e.what) (λ e. entry_ticks e.what) h (λ e t. no_ticks e.what t)

module _ (d : Deal) (a : ℕ) where
  tick_entry : (h : List Entry) (s : Sender) (w : What) (at : ℕ) (r : Reply) → is_ticking w ≡ true → IsTrueEntry d a h s w at r
      → run_ticks h + cond (is_tick s) 1 0 ≤ 20000 → height h + entry_ticks w ≤ 1000000 → IsLegalEntry d a (ticks h) s w at r
  tick_entry h Clock (Tick k) at r w t few low =
      let says = ticks_height h in
      let part : run_ticks (ticks h) ≤ run_ticks h = sum_by-part (λ e. is_ticking e.what) (λ e. cond (is_tick e.sender) 1 0) h in
      let free : nat_le 20000 (run_ticks (ticks h)) ≡ false = lt-leb 20000 (run_ticks (ticks h)) (omega arith) in
      let below : nat_lt 1000000 (height (ticks h) + k) ≡ false = le-ltb 1000000 (height (ticks h) + k) (omega arith) in
      record {
        some = t.some;
        below = omega arith;
        height = t.height ∙ ap (λ n. n + k) (sym says);
        reply = t.reply ∙ sym (ap₂ (λ x y. cond (x || y) ClockFull Accepted) free below);
        room = λ q. cc (sym t.reply ∙ q);
      }
  tick_entry h (Party p) (Tick k) at r w t few low = absurd t
  tick_entry h s (Made c) at r w t few low = absurd (cc w)

  abbrev Stays : List Entry → Type 0
  Stays h = HasTrueClock d a h → run_ticks h ≤ 20000 → height h ≤ 1000000 → IsLegal d a (ticks h)

  step : (h : List Entry) (x : Entry) (b : Bool) → is_ticking x.what ≡ b → IsTrueClock d a (record { past = h; now = x })
      → run_ticks (h ++ x ∷ []) ≤ 20000 → height (h ++ x ∷ []) ≤ 1000000 → IsLegal d a (ticks h) → IsLegal d a (ticks (h ++ x ∷ []))
  step h x true t m few low legal =
      subst (IsLegal d a) (sym (filter-on (λ e. is_ticking e.what) h x t))
      (all_moments_push (IsLegalMoment d a) (ticks h) x legal
      (tick_entry h x.sender x.what x.height x.reply t (m t) (omega (arith, ticks-push h x)) (omega (arith, height-push h x))))
  step h x false t m few low legal = subst (IsLegal d a) (sym (filter-off (λ e. is_ticking e.what) h x t)) legal

  ticks_legal : (h : List Entry) → Stays h
  ticks_legal h =
      grow Stays h (λ l few low. tt)
      (λ xs x rest l few low. step xs x (is_ticking x.what) refl (at_moment (IsTrueClock d a) (xs ++ x ∷ []) xs x l ([], refl)) few low
      (rest (all_moments_front (IsTrueClock d a) xs (x ∷ []) l) (omega (arith, ticks-push xs x)) (omega (arith, height-push xs x))))

pub needed_is_legal : NeededIsLegal
needed_is_legal d v a h few chain w = go (is_useless d v a h) refl
  where
    go : (b : Bool) → is_useless d v a h ≡ b → IsLegal d a (needed_history d v a h)
    go true e = subst (IsLegal d a) (sym (useless_is_ticks d v a h e)) (ticks_legal d a h chain.clock w.ticks w.height)
    go false e =
        subst (IsLegal d a) (sym (ap (λ b. filter (is_needed b v) h) e ∙ all_told v h)) (telling_is_legal d v a h few (chain.contract e) w)

-- The ticks of a history are short.

no_calls : (h : List Entry) → ((e : Entry) → IsElement e h → is_ticking e.what ≡ true) → call_count h ≡ 0
no_calls [] t = refl
no_calls (e ∷ h) t =
    let c : call_count (e ∷ h) ≡ cond (not (is_ticking e.what)) 1 0 + call_count h = sum_by-cons (λ x. cond (not (is_ticking x.what)) 1 0) e h in
    let k : ◌≡◌ {A = ℕ} (cond (not (is_ticking e.what)) 1 0) 0 = ap (λ b. cond {A = ℕ} (not b) 1 0) (t e (inl refl)) in
    let rest = no_calls h (λ x i. t x (inr i)) in
    omega arith

pub needed_is_short : NeededIsShort
needed_is_short d v a h chain = go (is_useless d v a h) refl
  where
    go : (b : Bool) → is_useless d v a h ≡ b → length (merged (needed_history d v a h)) ≤ 2 * (count_by (λ e. is_sender v e.sender) h + length d.leaders + 2) + 1
    go true e =
        let few = merged_short (ticks h) in
        let none = no_calls (ticks h) (λ x i. (from_filter (λ y. is_ticking y.what) x h i).1) in
        subst (λ l. length (merged l) ≤ 2 * (count_by (λ e. is_sender v e.sender) h + length d.leaders + 2) + 1) (sym (useless_is_ticks d v a h e))
        (omega arith)
    go false e =
        subst (λ l. length (merged l) ≤ 2 * (count_by (λ e. is_sender v e.sender) h + length d.leaders + 2) + 1)
        (sym (ap (λ b. filter (is_needed b v) h) e ∙ all_told v h)) (telling_is_short d v a h (chain.contract e))

-- A party needs nothing beside the book of a chain.

true_clock : (d : Deal) (v a : ℕ) (h : List Entry) → IsChain d v a h → HasTrueClock d a h
true_clock d v a h =
    grow (λ h. IsChain d v a h → HasTrueClock d a h) h (λ l. tt)
    (λ xs x rest l. all_moments_push (IsTrueClock d a) xs x (rest (all_moments_front (IsTrueMoment d v a) xs (x ∷ []) l))
    (λ t. (at_moment (IsTrueMoment d v a) (xs ++ x ∷ []) xs x l ([], refl)).told (told_tick x t)))
  where
    told_tick : (x : Entry) → is_ticking x.what ≡ true → is_told v x ≡ true
    told_tick x t = ap (λ b. b || is_sender v x.sender || is_of_contract (accepted x)) t

pub chain_is_needed : ChainIsNeeded
chain_is_needed d v b chain = record {
  one_each = chain.one_each;
  chain = λ a l. record { clock = true_clock d v a (history b a) (chain.chain a l); contract = λ e. chain.chain a l };
}

-- Books.

enough_on : (d : Deal) (v a : ℕ) (k h l : List Entry) → SaysTheSame v k h → SaysTheSame v h l ⊎ AreUseless d v a h l
    → SaysTheSame v k l ⊎ AreUseless d v a k l
enough_on d v a k h l s (inl t) = inl (says_on v k h l s t)
enough_on d v a k h l s (inr u) =
    inr (record {
      enters = u.enters;
      one = ap (is_arc_correct d a) s.published ∙ u.one;
      other = u.other;
      calls = λ test n. s.calls test n ∙ u.calls test n;
    })

is_merged : (k : Histories) (a : ℕ) → history (map merged k) a ≡ merged (history k a)
is_merged k a = get_or-map_at merged k a []

pub merged_says_enough : MergedSaysEnough
merged_says_enough d v k h s a =
    subst (λ l. SaysTheSame v l (history h a) ⊎ AreUseless d v a l (history h a)) (sym (is_merged k a))
    (enough_on d v a (merged (history k a)) (history k a) (history h a) (says_merged v (history k a)) (s a))

module _ (d : Deal) (v : ℕ) (b : Histories) (few : length d.leaders ≤ 8) (book : IsNeededBook d v b) (within : (a : ℕ) → KeepsLedgerLimits v (history b a)) where
  nth_chain : (a : ℕ) → IsNeededChain d v a (history b a)
  nth_chain a = by (nat_lt a (length b)) refl
    where
      by : (t : Bool) → nat_lt a (length b) ≡ t → IsNeededChain d v a (history b a)
      by true e = book.chain a (ltb-true a (length b) e)
      by false e =
          subst (IsNeededChain d v a) (sym (get_or_past b a [] (ltb-false a (length b) e))) (record { clock = tt; contract = λ e. tt })

  pub legal_at : (a : ℕ) → IsLegal d a (history (all_needed d v b) a)
  legal_at a = subst (IsLegal d a) (sym (part_is (needs d v b) b a)) (needed_is_legal d v a (history b a) few (nth_chain a) (within a))

  pub one_each : length (all_needed d v b) ≡ length d.graph.arcs
  one_each = length-parts (needs d v b) b ∙ book.one_each

  pub needed_legal : IsLegalBook d (all_needed d v b)
  needed_legal = record { one_each = one_each; legal = λ a l. legal_at a }

  told : IsLegalBook d (map merged (all_needed d v b)) × SayEnough d v (map merged (all_needed d v b)) b
  told = (
    record {
      one_each = length-map (all_needed d v b) merged ∙ one_each;
      legal = λ a l. subst (IsLegal d a) (sym (is_merged (all_needed d v b) a)) (merged_is_legal d v a (history (all_needed d v b) a) (legal_at a)).0;
    },
    merged_says_enough d v (all_needed d v b) b (needed_says_enough d v b b (λ a. begins_refl (history b a))),
  )

pub needed_can_be_told : NeededCanBeTold
needed_can_be_told d v b few book within = told d v b few book within
