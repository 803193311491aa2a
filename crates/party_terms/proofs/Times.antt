-- The heights that terms tell are those of the rule book.
use Rattle.std.proofs.Common.{◌≡◌, ◌+◌, ◌<◌, ◌≤◌, ℕ, nat_lt, max, Bool, true, false, cond, not, ◌&&◌, ◌||◌, ◌⊎◌, List, [], ◌∷◌, Some, refl, sym, ap, ◌∙◌, subst}
use Rattle.std.proofs.Common.{◌==◌, ◌-◌, length, inl, inr, arith, le-leb, leb-true, lt-ltb, eq-eqb}
use Rattle.std.proofs.lemmas.Bool.{false≢true}
use Rattle.std.proofs.lemmas.Option.{same_Some}
use Rattle.swap_base.specs.Lists.{greatest, IsElement}
use Rattle.swap_base.proofs.Lists.{and_both, and_parts, from_range, greatest-below, greatest-in, in_flat_map, in_range, list_any-in, some_fails_all}
use Rattle.time_bounds.specs.Times as times
use Rattle.swap_digraph.specs.declared.deal.Deal.{Deal}
use Rattle.swap_digraph.specs.Deal.{counterparty, locks, party}
use Rattle.swap_digraph.specs.Graph.{arcs, is_listed, leaving, listed_arcs}
use Rattle.escrow_core.specs.Terms.{last_unlock, stated_terms}
use Rattle.ledger_core.specs.declared.entry.Call.{Call}
use Rattle.ledger_core.specs.declared.entry.Call.TheVariants.{Publish}
use Rattle.ledger_core.specs.History.{is_open}
use Rattle.swap_rules.specs.Party.{expiry, is_ready, leads_one, ready_height}
use Rattle.swap_rules.specs.Due.{Action, is_due_publish, when_due}
use Rattle.swap_rules.specs.Late.{reference_height, when}
use Rattle.swap_rules.specs.Useful.{opens_in_time}
use Rattle.swap_rules.proofs.Prefixes.{from_flat_map}
use Rattle.hashkey_path.specs.declared.hashkey.Hashkey.{Hashkey}
use Rattle.swap_rules.specs.Accepted.{IsAccepted}
use Rattle.swap_rules.proofs.Accepted.{time_law, times_law}
use Rattle.swap_rules.proofs.Times.{TimeLaw, OfTimelocks, OfHashkeys, deadline_mono, last-timelock}
use Rattle.answer_rules.specs.Finished.{greatest_expiry}
use Rattle.party_terms.specs.Laws.{AwakeEndsWithTheDeal, AwakeIsLongEnough, FollowersPublishBelow, FollowersPublishUpTo, LeadersAreOnTime, LeadersAreTaken}
use Rattle.party_terms.specs.Laws.{OpeningsEndByThen, RefundsAreOpen, RefundsOpenNoEarlier}
use Rattle.party_terms.specs.Times.{awake_height, busy_until, claim_deadline, is_next_to, last_opening, publish_height, show_deadline}

pub leaders_are_on_time : LeadersAreOnTime
unfolding reference_height
leaders_are_on_time d k v a from leads e =
    go (leads_one d v) (is_listed a (leaving d.graph v) && (leads_one d v || is_ready d k v)) leads e
  where
    go : (b c : Bool) → b ≡ true → when c (cond b 0 (ready_height d k v)) ≡ Some from → publish_height b d ≡ from + d.delta
    go true true l e = let none : 0 ≡ from = same_Some 0 from e in omega (arith, none)
    go true false l e = absurd (cc e)
    go false c l e = absurd (false≢true l)

in_when : (test : Bool) (a : ℕ) (c : Call) (x : Action) → IsElement x (when_due test a c) → (test ≡ true) × (x.arc ≡ a)
in_when true a c x (inl e) = (refl, ap (λ y. y.arc) e)
in_when true a c x (inr i) = absurd i
in_when false a c x i = absurd i

pub followers_publish_below : FollowersPublishBelow
followers_publish_below d v at k x follows i =
    let f =
    from_flat_map (λ a. when_due (is_due_publish d v k a && opens_in_time d at a) a (Publish (stated_terms d a))) (leaving d.graph v) x i in
    let w = in_when (is_due_publish d v k f.0 && opens_in_time d at f.0) f.0 (Publish (stated_terms d f.0)) x f.2 in
    let low : at f.0 ≤ times.opening_deadline d.start d.delta d.bound =
    leb-true (at f.0) (times.opening_deadline d.start d.delta d.bound) (and_parts (is_due_publish d v k f.0) (opens_in_time d at f.0) w.0).1 in
    subst (λ (b : Bool). at x.arc ≤ publish_height b d) (sym follows)
    (subst (λ (a : ℕ). at a ≤ times.opening_deadline d.start d.delta d.bound) (sym w.1) low)

pub refunds_are_open : RefundsAreOpen
refunds_are_open d a h at closed high =
    let f = some_fails_all (is_open h) (locks d) closed in
    let least = greatest-in (expiry d a) (locks d) f.0 f.1 in
    let below : expiry d a f.0 < at = omega (arith, least, high) in
    list_any-in (λ i. not (is_open h i) && nat_lt (expiry d a i) at) (locks d) f.0
    (and_both (not (is_open h f.0)) (nat_lt (expiry d a f.0) at) (ap not f.2) (lt-ltb (expiry d a f.0) at below)) f.1

when_in : (test : Bool) (a : ℕ) (c : Call) → test ≡ true → IsElement (record { arc = a; call = c }) (when_due test a c)
when_in true a c e = inl refl
when_in false a c e = absurd (false≢true e)

pub followers_publish_up_to : FollowersPublishUpTo
followers_publish_up_to d v at k a follows i due low =
    let early : at a ≤ times.opening_deadline d.start d.delta d.bound =
    subst (λ (b : Bool). at a ≤ publish_height b d) follows low in
    in_flat_map (λ c. when_due (is_due_publish d v k c && opens_in_time d at c) c (Publish (stated_terms d c))) (leaving d.graph v) a
    (record { arc = a; call = Publish (stated_terms d a) }) i
    (when_in (is_due_publish d v k a && opens_in_time d at a) a (Publish (stated_terms d a))
    (and_both (is_due_publish d v k a) (opens_in_time d at a) due
    (le-leb (at a) (times.opening_deadline d.start d.delta d.bound) early)))

-- below the greatest value of f is one of its values
one_reaches : (f : ℕ → ℕ) (xs : List ℕ) (n : ℕ) → 0 < n → n ≤ greatest f xs → (x : ℕ) × IsElement x xs × (n ≤ f x)
one_reaches f [] n some low = absurd (omega (arith, some, low))
one_reaches f (x ∷ xs) n some low = pick (either n (f x) (greatest f xs) low) (λ l. one_reaches f xs n some l)
  where
    either : (n a b : ℕ) → n ≤ max a b → (n ≤ a) ⊎ (n ≤ b)
    either n a b h = grind arith

    pick : (n ≤ f x) ⊎ (n ≤ greatest f xs) → (n ≤ greatest f xs → (y : ℕ) × IsElement y xs × (n ≤ f y))
        → (y : ℕ) × IsElement y (x ∷ xs) × (n ≤ f y)
    pick (inl l) more = (x, inl refl, l)
    pick (inr l) more = let y = more l in (y.0, inr y.1, y.2)

pub refunds_open_no_earlier : RefundsOpenNoEarlier
refunds_open_no_earlier d a at some low = one_reaches (expiry d a) (locks d) at some (omega (arith, low))

pub openings_end_by_then : OpeningsEndByThen
unfolding last_opening
openings_end_by_then d a key accepted l below valid =
    let law = times_law d accepted in
    let least = law.last a key l below valid in
    let most = greatest-in (expiry d a) (locks d) key.lock (in_range key.lock (length d.leaders) below) in
    omega (arith, least, most)

pub leaders_are_taken : LeadersAreTaken
leaders_are_taken d a key accepted l = go (time_law d accepted)
  where
    go : TimeLaw d → show_deadline d ≤ last_unlock d.mode (stated_terms d a) key
    go (OfTimelocks law) =
        let opens = law.opens a l in
        let last = last-timelock d (stated_terms d a) key law.mode in omega (arith, opens, last)
    go (OfHashkeys law) =
        let last : last_unlock d.mode (stated_terms d a) key ≡ times.deadline d.start d.delta d.bound (listed_arcs key.path) =
        ap (λ m. last_unlock m (stated_terms d a) key) law.mode in
        let more = deadline_mono d.start d.delta d.bound 0 (listed_arcs key.path) (omega arith) in omega (arith, last, more)

busy_next : (d : Deal) (v a : ℕ) → is_next_to d v a ≡ true → busy_until d v a ≡ claim_deadline d a
busy_next d v a e = ap (λ b. cond b (claim_deadline d a) 0) e

or_true : (a b : Bool) → b ≡ true → (a || b) ≡ true
or_true true b e = refl
or_true false b e = e

next_to : (d : Deal) (v a : ℕ) → (party d a ≡ v) ⊎ (counterparty d a ≡ v) → is_next_to d v a ≡ true
next_to d v a (inl e) = ap (λ b. b || (counterparty d a == v)) (eq-eqb (party d a) v e)
next_to d v a (inr e) = or_true (party d a == v) (counterparty d a == v) (eq-eqb (counterparty d a) v e)

pub awake_is_long_enough : AwakeIsLongEnough
unfolding awake_height
awake_is_long_enough d v a l near =
    let most = greatest-in (busy_until d v) (arcs d.graph) a (in_range a (length d.graph.arcs) l) in
    let busy = busy_next d v a (next_to d v a near) in omega (arith, most, busy)

-- a claim of an accepted deal is on time only up to the horizon
claimed : (d : Deal) → IsAccepted d → (a : ℕ) → a < length d.graph.arcs → claim_deadline d a ≤ times.horizon d.start d.delta d.bound
unfolding claim_deadline
claimed d accepted a l =
    let law = times_law d accepted in
    let above : d.delta ≤ times.horizon d.start d.delta d.bound = omega arith in
    let most : greatest (expiry d a) (locks d) ≤ times.horizon d.start d.delta d.bound - d.delta =
    greatest-below (expiry d a) (locks d) (times.horizon d.start d.delta d.bound - d.delta) (λ i _. let e = law.ends a i l in omega (arith, e)) in
    omega (arith, most, above)

pub awake_ends_with_the_deal : AwakeEndsWithTheDeal
unfolding awake_height
awake_ends_with_the_deal d v accepted =
    greatest-below (busy_until d v) (arcs d.graph) (times.horizon d.start d.delta d.bound) (λ a i. below a (from_range a (length d.graph.arcs) i) (is_next_to d v a))
  where
    below : (a : ℕ) → a < length d.graph.arcs → (near : Bool) → cond near (claim_deadline d a) 0 ≤ times.horizon d.start d.delta d.bound
    below a l true = claimed d accepted a l
    below a l false = omega arith
