-- The times of an accepted deal, as the proofs use them.
use Rattle.std.proofs.Common.{◌≡◌, ◌⊎◌, ℕ, ◌+◌, ◌<◌, ◌≤◌, ◌==◌, Bool, true, false, not, slice_index, if◌then◌else◌, ◌&&◌, List, [], length, refl, sym}
use Rattle.std.proofs.Common.{ap, ◌∙◌, subst, inl, inr, arith, eqb-true, mul-le-mul_right, ◌*◌}
use Rattle.std.proofs.lemmas.List.{nil_from_length}
use Rattle.swap_base.specs.Lists.{IsElement}
use Rattle.swap_base.proofs.Lists.{and_parts}
use Rattle.swap_digraph.specs.declared.deal.Version.{Version}
use Rattle.swap_digraph.specs.declared.deal.Version.TheVariants.{One, Two}
use Rattle.swap_digraph.specs.declared.deal.Deal.{Deal}
use Rattle.swap_digraph.specs.declared.deal.Mode.TheVariants.{Timelocks, Hashkeys}
use Rattle.swap_digraph.specs.Graph.{is_path, first_is, last_is, listed_arcs, leaving, entering}
use Rattle.swap_digraph.specs.Deal.{counterparty, leads, lock_leader, lock_hashlock}
use Rattle.hashkey_path.specs.declared.hashkey.Hashkey.{Hashkey}
use Rattle.hashkey_path.specs.Hashkey.{is_wrong_secret, is_wrong_path, is_wrong_signature, is_valid}
use Rattle.escrow_core.specs.declared.terms.Terms.{Terms}
use Rattle.escrow_core.specs.Terms.{is_own, stated_terms, lock_expiry, last_unlock}
use Rattle.swap_rules.specs.Party.{expiry}
use Rattle.swap_rules.proofs.Words.{leader_reads}
use Rattle.swap_digraph.proofs.Paths.{alone}
use Rattle.ledger_core.proofs.History.{not-false, not-true-of}
use Rattle.time_bounds.specs.Times as times

-- What an accepted deal in timelocks mode says of its times.
pub record TimelockLaw (d : Deal) : Type 0 where
  pub mode : d.mode ≡ Timelocks
  pub one : length d.leaders ≡ 1
  pub opens : (a : ℕ) → a < length d.graph.arcs → times.opening_deadline d.start d.delta d.bound + d.delta ≤ slice_index d.timelocks a
  pub ends : (a : ℕ) → a < length d.graph.arcs → slice_index d.timelocks a ≤ times.last_expiry d.start d.delta d.bound
  pub steps : (v a c : ℕ) → IsElement a (entering d.graph v) → IsElement c (leaving d.graph v) → leads d v 0 ≡ false
      → slice_index d.timelocks c + d.delta ≤ slice_index d.timelocks a

-- What an accepted deal in hashkeys mode says of its times: no path to a leader has more arcs than
-- the bound.
pub record HashkeyLaw (d : Deal) : Type 0 where
  pub mode : d.mode ≡ Hashkeys
  pub lock : 0 < length d.leaders
  pub path : (p : List ℕ) (i : ℕ) → i < length d.leaders → is_path d.graph p ≡ true → last_is (lock_leader d i) p ≡ true → listed_arcs p ≤ d.bound

-- What safety and refunds need of a deal's times, in either mode.
pub data TimeLaw (d : Deal) : Type 0 where
  OfTimelocks : TimelockLaw d → TimeLaw d
  OfHashkeys : HashkeyLaw d → TimeLaw d

-- lock j expires on arc a as soon as its leader, whom a enters, has had its time
pub record ExpiresEarly (d : Deal) (a j : ℕ) : Type 0 where
  pub own : leads d (counterparty d a) j ≡ true
  pub height : expiry d a j ≡ times.opening_deadline d.start d.delta d.bound + d.delta

-- The times of a deal, as the proofs of safety and refunds use them, in both modes and versions.
pub record TimesLaw (d : Deal) : Type 0 where
  pub lock : 0 < length d.leaders
  pub last : (a : ℕ) (key : Hashkey) → a < length d.graph.arcs → key.lock < length d.leaders → is_valid d a (lock_hashlock d key.lock) key ≡ true
      → last_unlock d.mode (stated_terms d a) key ≤ expiry d a key.lock
  pub opens : (a i : ℕ) → a < length d.graph.arcs → times.opening_deadline d.start d.delta d.bound + d.delta ≤ expiry d a i
  pub ends : (a i : ℕ) → a < length d.graph.arcs → expiry d a i + d.delta ≤ times.horizon d.start d.delta d.bound
  pub early : (a i j : ℕ) → a < length d.graph.arcs → (expiry d a i ≤ expiry d a j) ⊎ ExpiresEarly d a j
  -- a leader's own hashkey is accepted on the arcs that enter it only as long as no lock expires
  pub own : (a j : ℕ) (key : Hashkey) → a < length d.graph.arcs → key.lock < length d.leaders → is_valid d a (lock_hashlock d key.lock) key ≡ true
      → leads d (counterparty d a) key.lock ≡ true → last_unlock d.mode (stated_terms d a) key ≤ expiry d a j

-- Timelocks.

pub last-timelock : (d : Deal) (t : Terms) (key : Hashkey) → d.mode ≡ Timelocks → last_unlock d.mode t key ≡ t.timelock
last-timelock d t key m = ap (λ x. last_unlock x t key) m

expiry-timelock : (d : Deal) (a i : ℕ) → d.mode ≡ Timelocks → expiry d a i ≡ slice_index d.timelocks a
expiry-timelock d a i m = ap (λ x. lock_expiry x d a (stated_terms d a) i) m

pub below_horizon : (s b x : ℕ) → times.last_expiry s x b + x ≤ times.horizon s x b
below_horizon s b x = omega arith

pub times_of_timelocks : (d : Deal) → TimelockLaw d → TimesLaw d
times_of_timelocks d law = record {
  lock = let e = law.one in omega arith;
  last = λ a key l below h.
      let e : last_unlock d.mode (stated_terms d a) key ≡ slice_index d.timelocks a = last-timelock d (stated_terms d a) key law.mode in
      let f = expiry-timelock d a key.lock law.mode in omega arith;
  opens = λ a i l.
      let f = expiry-timelock d a i law.mode in
      let e = law.opens a l in omega arith;
  ends = λ a i l.
      let f = expiry-timelock d a i law.mode in
      let e : slice_index d.timelocks a ≤ times.last_expiry d.start d.delta d.bound = law.ends a l in
      let k = below_horizon d.start d.bound d.delta in omega arith;
  early = λ a i j l.
      let e = expiry-timelock d a i law.mode in
      let f = expiry-timelock d a j law.mode in
      inl (omega arith);
  own = λ a j key l below h lead.
      let e : last_unlock d.mode (stated_terms d a) key ≡ slice_index d.timelocks a = last-timelock d (stated_terms d a) key law.mode in
      let f = expiry-timelock d a j law.mode in omega arith;
}

-- on timelocks every path is empty
pub no_path : (d : Deal) (a : ℕ) (key : Hashkey) → d.mode ≡ Timelocks → is_wrong_path d a d.mode key ≡ false → key.path ≡ []
no_path d a key m k =
    let h = not-false _ (ap (λ x. is_wrong_path d a x key) (sym m) ∙ k) in
    nil_from_length key.path (eqb-true (length key.path) 0 (and_parts (length key.path == 0) (length key.sigs == 0) h).0)

pub deadline_mono : (s x b k m : ℕ) → k ≤ m → times.deadline s x b k ≤ times.deadline s x b m
deadline_mono s x b k m h = let e : k * x ≤ m * x = mul-le-mul_right x h in omega arith

pub deadline_next : (s x b k : ℕ) → times.deadline s x b k + x ≡ times.deadline s x b (k + 1)
deadline_next s x b k = omega arith

pub deadline_first : (s x b : ℕ) → times.opening_deadline s x b + x ≡ times.deadline s x b 0
deadline_first s x b = omega arith

pub deadline_last : (s x b : ℕ) → times.deadline s x b b ≡ times.last_expiry s x b
deadline_last s x b = omega arith

pub record PathOf (d : Deal) (a : ℕ) (key : Hashkey) : Type 0 where
  pub path : is_path d.graph key.path ≡ true
  pub first : first_is (counterparty d a) key.path ≡ true
  pub last : last_is (lock_leader d key.lock) key.path ≡ true
  pub lengths : length key.path ≡ length key.sigs

pub make_path : (d : Deal) (a : ℕ) (key : Hashkey) → d.mode ≡ Hashkeys → is_wrong_path d a d.mode key ≡ false → PathOf d a key
make_path d a key m k =
    let h = not-false _ (ap (λ x. is_wrong_path d a x key) (sym m) ∙ k) in
    let k1 =
    and_parts (is_path d.graph key.path && first_is (counterparty d a) key.path && last_is (lock_leader d key.lock) key.path)
    (length key.path == length key.sigs) h in
    let k2 = and_parts (is_path d.graph key.path && first_is (counterparty d a) key.path) (last_is (lock_leader d key.lock) key.path) k1.0 in
    let k3 = and_parts (is_path d.graph key.path) (first_is (counterparty d a) key.path) k2.0 in
    record { path = k3.0; first = k3.1; last = k2.1; lengths = eqb-true _ _ k1.1 }

pub path_of_valid : (d : Deal) (a : ℕ) (hashlock : List ℕ) (key : Hashkey) → is_valid d a hashlock key ≡ true → is_wrong_path d a d.mode key ≡ false
path_of_valid d a hashlock key h =
    let k1 = and_parts (not (is_wrong_secret hashlock key) && not (is_wrong_path d a d.mode key)) (not (is_wrong_signature d d.mode key)) h in
    let k2 = and_parts (not (is_wrong_secret hashlock key)) (not (is_wrong_path d a d.mode key)) k1.0 in
    not-true-of _ k2.1

-- Expiry per lock.

own_leads : (ver : Version) (d : Deal) (a i : ℕ) → is_own ver d a i ≡ true → leads d (counterparty d a) i ≡ true
own_leads One d a i e = absurd (cc e)
own_leads Two d a i e = e

abbrev expiry_if : Deal → Bool → ℕ
expiry_if d own = if own then times.own_expiry d.start d.delta d.bound else times.last_expiry d.start d.delta d.bound

expiry-hashkeys : (d : Deal) (a i : ℕ) → d.mode ≡ Hashkeys → (own : Bool) → is_own d.version d a i ≡ own → expiry d a i ≡ expiry_if d own
expiry-hashkeys d a i m own e = ap (λ x. lock_expiry x d a (stated_terms d a) i) m ∙ ap (expiry_if d) e

own_below : (d : Deal) (own : Bool) → expiry_if d own ≤ times.last_expiry d.start d.delta d.bound
own_below d true = let k : d.bound * d.delta ≤ 2 * d.bound * d.delta = mul-le-mul_right d.delta (omega arith) in omega arith
own_below d false = omega arith

own_above : (d : Deal) (own : Bool) → times.opening_deadline d.start d.delta d.bound + d.delta ≤ expiry_if d own
own_above d true = omega arith
own_above d false = let k : d.bound * d.delta ≤ 2 * d.bound * d.delta = mul-le-mul_right d.delta (omega arith) in omega arith

-- on an arc that enters the lock's leader the only path is that leader alone
own_alone : (d : Deal) (a : ℕ) (key : Hashkey) → key.lock < length d.leaders → PathOf d a key → leads d (counterparty d a) key.lock ≡ true
    → listed_arcs key.path ≡ 0
own_alone d a key below p lead =
    let same : lock_leader d key.lock ≡ counterparty d a = leader_reads d (counterparty d a) key.lock below lead in
    let one = alone d.graph (counterparty d a) key.path p.path p.first (subst (λ v. last_is v key.path ≡ true) same p.last) in
    omega arith

pub times_of_hashkeys : (d : Deal) → HashkeyLaw d → TimesLaw d
times_of_hashkeys d law = record {
  lock = law.lock;
  last = λ a key l below h. last a key below (make_path d a key law.mode (path_of_valid d a (lock_hashlock d key.lock) key h))
      (is_own d.version d a key.lock) refl;
  opens = λ a i l.
      let f = expiry-hashkeys d a i law.mode (is_own d.version d a i) refl in
      let g = own_above d (is_own d.version d a i) in omega arith;
  ends = λ a i l.
      let f = expiry-hashkeys d a i law.mode (is_own d.version d a i) refl in
      let g = own_below d (is_own d.version d a i) in
      let k = below_horizon d.start d.bound d.delta in omega arith;
  early = λ a i j l. early a i j (is_own d.version d a j) refl;
  own = λ a j key l below h lead.
      let z = own_alone d a key below (make_path d a key law.mode (path_of_valid d a (lock_hashlock d key.lock) key h)) lead in
      let y = deadline_mono d.start d.delta d.bound (listed_arcs key.path) 0 (omega arith) in
      let e : last_unlock d.mode (stated_terms d a) key ≡ times.deadline d.start d.delta d.bound (listed_arcs key.path) =
      ap (λ m. last_unlock m (stated_terms d a) key) law.mode in
      let f = expiry-hashkeys d a j law.mode (is_own d.version d a j) refl in
      let g = own_above d (is_own d.version d a j) in
      let k = deadline_first d.start d.delta d.bound in omega arith;
}
  where
    last : (a : ℕ) (key : Hashkey) → key.lock < length d.leaders → PathOf d a key → (own : Bool) → is_own d.version d a key.lock ≡ own
        → last_unlock d.mode (stated_terms d a) key ≤ expiry d a key.lock
    last a key below p own o =
        let e : last_unlock d.mode (stated_terms d a) key ≡ times.deadline d.start d.delta d.bound (listed_arcs key.path) =
        ap (λ m. last_unlock m (stated_terms d a) key) law.mode in
        let f = expiry-hashkeys d a key.lock law.mode own o in
        let g : times.deadline d.start d.delta d.bound (listed_arcs key.path) ≤ expiry_if d own = go own o in
        omega arith
      where
        go : (own : Bool) → is_own d.version d a key.lock ≡ own → times.deadline d.start d.delta d.bound (listed_arcs key.path) ≤ expiry_if d own
        go true o =
            let z = own_alone d a key below p (own_leads d.version d a key.lock o) in
            let y = deadline_mono d.start d.delta d.bound (listed_arcs key.path) 0 (omega arith) in
            omega arith
        go false o =
            let g = deadline_mono d.start d.delta d.bound (listed_arcs key.path) d.bound (law.path key.path key.lock below p.path p.last) in
            let k = deadline_last d.start d.delta d.bound in omega arith

    early : (a i j : ℕ) → (own : Bool) → is_own d.version d a j ≡ own → (expiry d a i ≤ expiry d a j) ⊎ ExpiresEarly d a j
    early a i j true o = inr (record {
      own = own_leads d.version d a j o;
      height = let f = expiry-hashkeys d a j law.mode true o in omega arith;
    })
    early a i j false o =
        let e = expiry-hashkeys d a i law.mode (is_own d.version d a i) refl in
        let g = own_below d (is_own d.version d a i) in
        let f = expiry-hashkeys d a j law.mode false o in
        inl (omega arith)

-- What a time law a deal has, in either mode.
pub parse_times : (d : Deal) → TimeLaw d → TimesLaw d
parse_times d (OfTimelocks law) = times_of_timelocks d law
parse_times d (OfHashkeys law) = times_of_hashkeys d law
