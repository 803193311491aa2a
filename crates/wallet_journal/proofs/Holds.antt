-- What the calls of a disk in memory make of what it holds.
use Rattle.std.proofs.Common.{◌≡◌, ℕ, zero, suc, map, ◌+◌, ◌-◌, ◌≤◌, List, [], ◌∷◌, ◌++◌, length, replicate}
use Rattle.std.proofs.Common.{refl, sym, ◌∙◌, ap, subst, arith}
use Rattle.std.specs.List.{AllByRecursion}
use Rattle.std.proofs.lemmas.List.{length-replicate}
use Rattle.wallet_journal.specs.Device.{Write, written, Torn, Elapses}
use Rattle.wallet_journal.specs.Held.{Held, disk_size, no_bytes, after_writes, synced_bytes, visible_bytes, MayBeLeft, Leaves, IsOnDisk, AreOnDisk}
use Rattle.wallet_journal.specs.Memory.{with_write, all_synced, filled, crashed}
use Rattle.wallet_journal.proofs.Bytes.{written_torn}
use Rattle.wallet_journal.proofs.Writes.{after_push, after_both, left_push}
use Rattle.wallet_journal.proofs.Moment.{Since, elapses_push}

pub size_is : disk_size ≡ 549426
unfolding disk_size
size_is = refl

pub none_size : length no_bytes ≡ 549426
none_size = length-replicate disk_size 0 ∙ size_is

pub writes_size : (bytes : List ℕ) (ws : List Write) → length bytes ≡ 549426 → AllByRecursion IsOnDisk ws → length (after_writes bytes ws) ≡ 549426
writes_size bytes [] size all = size
writes_size bytes (w ∷ ws) size all =
    writes_size (written bytes w.at w.bytes) ws ((written_torn bytes w.at w.bytes (omega (arith, size, all.0))).as_long ∙ size) all.1

left_among : (bytes : List ℕ) (ws : List Write) → length bytes ≡ 549426 → AllByRecursion IsOnDisk ws → MayBeLeft bytes ws (after_writes bytes ws)
left_among bytes [] size all = refl
left_among bytes (w ∷ ws) size all =
    let torn = written_torn bytes w.at w.bytes (omega (arith, size, all.0)) in
    (written bytes w.at w.bytes, torn, left_among (written bytes w.at w.bytes) ws (torn.as_long ∙ size) all.1)

pub both_on : (ws vs : List Write) → AllByRecursion IsOnDisk ws → AllByRecursion IsOnDisk vs → AllByRecursion IsOnDisk (ws ++ vs)
both_on [] vs all more = more
both_on (w ∷ ws) vs all more = (all.0, both_on ws vs all.1 more)

pub sized : (h : Held) → AreOnDisk h → length (visible_bytes h) ≡ 549426
sized h on = writes_size (synced_bytes h) h.loose (writes_size no_bytes h.synced none_size on.0) on.1

pub among : (h : Held) → AreOnDisk h → Leaves h (visible_bytes h)
among h on = left_among (synced_bytes h) h.loose (writes_size no_bytes h.synced none_size on.0) on.1

module _ (h h' : Held) where
  -- where only memory was taken
  module _ (is : h'.synced ≡ h.synced) (is' : h'.loose ≡ h.loose) where
    pub same_on : AreOnDisk h → AreOnDisk h'
    same_on on = (subst (AllByRecursion IsOnDisk) (sym is) on.0, subst (AllByRecursion IsOnDisk) (sym is') on.1)

  -- after a write
  module _ (at : ℕ) (bytes : List ℕ) (spare : ℕ) (is : h' ≡ with_write h at bytes spare) where
    pub append_items : AreOnDisk h → at + length bytes ≤ 549426 → AreOnDisk h'
    append_items on range = subst AreOnDisk (sym is) (on.0, both_on h.loose (record { at = at; bytes = bytes } ∷ []) on.1 (range, tt))

    pub put_written : visible_bytes h' ≡ written (visible_bytes h) at bytes
    put_written = ap visible_bytes is ∙ after_push (synced_bytes h) h.loose (record { at = at; bytes = bytes })

    pub put_left : (c : List ℕ) → Leaves h' c → (x : List ℕ) × Leaves h x × Torn at (length bytes) x c
    put_left c left = left_push (synced_bytes h) h.loose (record { at = at; bytes = bytes }) c (subst (λ (g : Held). Leaves g c) is left)

  -- after a sync
  module _ (is : h' ≡ all_synced h) where
    pub settled_bytes : visible_bytes h' ≡ visible_bytes h
    settled_bytes = ap visible_bytes is ∙ after_both no_bytes h.synced h.loose

    pub settled_only : (c : List ℕ) → Leaves h' c → c ≡ visible_bytes h
    settled_only c left = subst (λ (g : Held). Leaves g c) is left ∙ after_both no_bytes h.synced h.loose

    pub settled_left : AreOnDisk h → (c : List ℕ) → Leaves h' c → Leaves h c
    settled_left on c left = subst (Leaves h) (sym (settled_only c left)) (among h on)

-- one moment more
pub elapses_to : (past past' : List Held) (old new : Held) → past' ≡ past ++ old ∷ []
    → Elapses (length past) (length past') (Since past old) (Since past' new) (Leaves new)
elapses_to past past' old new is =
    subst (λ (l : List Held). Elapses (length past) (length l) (Since past old) (Since l new) (Leaves new)) (sym is) (elapses_push past old new)

-- a crash

unchanged : (bytes : List ℕ) (ws : List Write) → MayBeLeft bytes ws bytes
unchanged bytes [] = refl
unchanged bytes (w ∷ ws) = (bytes, record { before = refl; after = refl; as_long = refl }, unchanged bytes ws)

filled_left : (v : ℕ) (bytes : List ℕ) (ws : List Write) → length bytes ≡ 549426 → AllByRecursion IsOnDisk ws
    → MayBeLeft bytes ws (after_writes bytes (map (filled v) ws))
filled_left v bytes [] size all = refl
filled_left v bytes (w ∷ ws) size all =
    let same : length (replicate (length w.bytes) v) ≡ length w.bytes = length-replicate (length w.bytes) v in
    let torn = written_torn bytes w.at (replicate (length w.bytes) v) (omega (arith, same, size, all.0)) in (
      written bytes w.at (replicate (length w.bytes) v),
      subst (λ (n : ℕ). Torn w.at n bytes (written bytes w.at (replicate (length w.bytes) v))) same torn,
      filled_left v (written bytes w.at (replicate (length w.bytes) v)) ws (torn.as_long ∙ size) all.1,
    )

filled_on : (v : ℕ) (ws : List Write) → AllByRecursion IsOnDisk ws → AllByRecursion IsOnDisk (map (filled v) ws)
filled_on v [] all = tt
filled_on v (w ∷ ws) all = (omega (arith, length-replicate (length w.bytes) v, all.0), filled_on v ws all.1)

-- what it leaves is one of what it may
pub crash_left : (image : ℕ) (h : Held) → AreOnDisk h → Leaves h (visible_bytes (crashed image h))
crash_left zero h on = unchanged (synced_bytes h) h.loose
crash_left (suc zero) h on = subst (Leaves h) (sym (after_both no_bytes h.synced h.loose)) (among h on)
crash_left (suc (suc n)) h on =
    subst (Leaves h) (sym (after_both no_bytes h.synced (map (filled (suc (suc n))) h.loose)))
    (filled_left (suc (suc n)) (synced_bytes h) h.loose (writes_size no_bytes h.synced none_size on.0) on.1)

pub crash_on : (image : ℕ) (h : Held) → AreOnDisk h → AreOnDisk (crashed image h)
crash_on zero h on = (on.0, tt)
crash_on (suc zero) h on = (both_on h.synced h.loose on.0 on.1, tt)
crash_on (suc (suc n)) h on = (both_on h.synced (map (filled (suc (suc n))) h.loose) on.0 (filled_on (suc (suc n)) h.loose on.1), tt)
