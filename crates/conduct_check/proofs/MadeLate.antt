-- What is asked of a list of entries is told by its calls, where ticks count for nothing.
use Rattle.std.proofs.Common.{◌≡◌, ℕ, Bool, true, false, cond, ◌&&◌, nat_le, List, Option, Some, None, refl, ap, ◌∙◌}
use Rattle.std.specs.List.{list_any}
use Rattle.swap_base.specs.Lists.{greatest}
use Rattle.hashkey_path.specs.declared.hashkey.Hashkey.{Hashkey}
use Rattle.ledger_core.specs.declared.entry.Call.{Call}
use Rattle.ledger_core.specs.declared.entry.What.TheVariants.{Tick}
use Rattle.ledger_core.specs.declared.entry.Entry.{Entry}
use Rattle.ledger_core.specs.History.{accepted_call, is_sender, made_call}
use Rattle.history_index.specs.Made.{history_calls}
use Rattle.history_index.proofs.Calls.{any_made, greatest_made}
use Rattle.swap_rules.specs.Party.{pick_call}
use Rattle.swap_rules.specs.Conduct.{extends}
use Rattle.swap_rules.specs.Late.{height_if, is_carried}
use Rattle.conduct_check.specs.declared.counting.Counted.{Counted}
use Rattle.conduct_check.specs.declared.counting.Counted.TheVariants as counted
use Rattle.conduct_check.specs.Overdue.{is_counted_call, counts_entry, greatest_index_use, has_counted_call, is_used_with_key}

-- no tick is a call

no_call : (b : Bool) → ◌≡◌ {A = Option Call} (cond b None None) None
no_call true = refl
no_call false = refl

none_counts : (c : Counted) (at : ℕ) → is_counted_call c at None ≡ false
none_counts counted.Publish at = refl
none_counts (counted.Unlock i first) at = refl
none_counts counted.Claim at = refl
none_counts (counted.Refund least) at = refl

none_counts_by : (c : Counted) (v due : ℕ) (e : Entry) (k : ℕ) → e.what ≡ Tick k → counts_entry c v due e ≡ false
unfolding counts_entry
none_counts_by c v due e k w =
    let none : pick_call v e ≡ None = ap (λ x. cond (is_sender v e.sender) (made_call x) None) w ∙ no_call (is_sender v e.sender) in
    ap (λ o. is_counted_call c e.height o && nat_le e.height due) none ∙ ap (λ x. x && nat_le e.height due) (none_counts c e.height)

pub done_made : (c : Counted) (v due : ℕ) (h : List Entry) → has_counted_call c v due h ≡ list_any (λ m. counts_entry c v due m.entry) (history_calls h)
done_made c v due h = any_made (counts_entry c v due) h (none_counts_by c v due)

none_used : (v : ℕ) (first seen : Option Hashkey) (e : Entry) (k : ℕ) → e.what ≡ Tick k → is_used_with_key v first seen e ≡ false
none_used v (Some key) seen e k w = ap (λ x. extends v key (accepted_call x e.reply)) w
none_used v None None e k w = ap (λ x. is_carried None (accepted_call x e.reply)) w
none_used v None (Some key) e k w = ap (λ x. is_carried (Some key) (accepted_call x e.reply)) w

pub used_made : (v : ℕ) (first seen : Option Hashkey) (h : List Entry)
    → greatest_index_use v first seen h ≡ greatest (λ m. height_if (is_used_with_key v first seen m.entry) m.entry.height) (history_calls h)
unfolding greatest_index_use
used_made v first seen h =
    greatest_made (λ e. height_if (is_used_with_key v first seen e) e.height) h (λ e k w. ap (λ x. height_if x e.height) (none_used v first seen e k w))
