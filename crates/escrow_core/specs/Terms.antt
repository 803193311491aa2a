-- The terms of a contract (Herlihy 2018, section 4), and the times that they give it.
use Rattle.std.specs.Prelude.{◌==◌, ◌&&◌, ℕ, min, Bool, false, not, List, [], ◌∷◌, filter, map, slice_index, slice_index_or, if◌then◌else◌}
use Rattle.std.specs.Str.{bytes_eq}
use Rattle.swap_base.specs.Lists.{same_list}
use Rattle.time_bounds.specs.Times as times
use Rattle.swap_digraph.specs.Graph.{listed_arcs}
use Rattle.swap_digraph.specs.declared.deal.Deal.{Deal}
use Rattle.swap_digraph.specs.declared.deal.Mode.{Mode}
use Rattle.swap_digraph.specs.declared.deal.Mode.TheVariants.{Timelocks, Hashkeys}
use Rattle.swap_digraph.specs.declared.deal.Version.{Version}
use Rattle.swap_digraph.specs.declared.deal.Version.TheVariants.{One, Two}
use Rattle.swap_digraph.specs.Deal.{amount, counterparty, leads, locks}
use Rattle.hashkey_path.specs.declared.hashkey.Hashkey.{Hashkey}
use Rattle.escrow_core.specs.declared.terms.Terms.{Terms}

-- the correct terms of arc a
abbrev pub stated_terms : Deal → ℕ → Terms
stated_terms d a = record { locks = d.hashlocks; start = d.start; delta = d.delta; bound = d.bound; timelock = slice_index d.timelocks a; amount = amount d a }

abbrev pub same_terms : Terms → Terms → Bool
same_terms t u =
    same_list bytes_eq t.locks u.locks && (t.start == u.start) && (t.delta == u.delta) && (t.bound == u.bound) && (t.timelock == u.timelock)
    && (t.amount == u.amount)

-- the hashlock of lock i
abbrev pub terms_hashlock : Terms → ℕ → List ℕ
terms_hashlock t i = slice_index_or t.locks i []

-- whether lock i expires early on arc a: in version 2, where the arc enters the lock's leader
abbrev pub is_own : Version → Deal → ℕ → ℕ → Bool
is_own One d a i = false
is_own Two d a i = leads d (counterparty d a) i

-- the height above which lock i of arc a is expired, by the contract's terms
abbrev pub lock_expiry : Mode → Deal → ℕ → Terms → ℕ → ℕ
lock_expiry Timelocks d a t i = t.timelock
lock_expiry Hashkeys d a t i = if is_own d.version d a i then times.own_expiry t.start t.delta t.bound else times.last_expiry t.start t.delta t.bound

-- the last height at which the hashkey is accepted
abbrev pub last_unlock : Mode → Terms → Hashkey → ℕ
last_unlock Timelocks t key = t.timelock
last_unlock Hashkeys t key = times.deadline t.start t.delta t.bound (listed_arcs key.path)

-- the least of the numbers, 0 where there are none
abbrev pub least : List ℕ → ℕ
least [] = 0
least (n ∷ []) = n
least (n ∷ m ∷ ns) = min n (least (m ∷ ns))

-- the locks that are closed
abbrev pub closed_locks : Deal → (ℕ → Bool) → List ℕ
closed_locks d is_open = filter (λ i. not (is_open i)) (locks d)

-- the height above which a refund is accepted: the least expiry of a closed lock
abbrev pub refund_expiry : Deal → ℕ → Terms → (ℕ → Bool) → ℕ
refund_expiry d a t is_open = least (map (lock_expiry d.mode d a t) (closed_locks d is_open))
