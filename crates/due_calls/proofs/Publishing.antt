-- The first due publish is that on the first leaving arc without a publish, where the party may
-- publish.
use Rattle.std.proofs.Common.{◌≡◌, ◌∙◌, ℕ, Bool, true, false, ◌&&◌, ◌||◌, not, None, Option, option_map, sym, ap, refl}
use Rattle.std.specs.List.{find}
use Rattle.swap_digraph.specs.Graph.{leaving}
use Rattle.swap_digraph.specs.declared.deal.Deal.{Deal}
use Rattle.escrow_core.specs.Terms.{stated_terms}
use Rattle.ledger_core.specs.declared.entry.Call.TheVariants.{Publish}
use Rattle.ledger_core.specs.Book.{Histories, history}
use Rattle.swap_rules.specs.Party.{is_ready, leads_one}
use Rattle.swap_rules.specs.Conduct.{is_publish}
use Rattle.swap_rules.specs.Due.{has_called, is_due_publish, due_publishes, first}
use Rattle.due_calls.specs.Publish.{publish_action}
use Rattle.due_calls.proofs.First.{first_find, find_none}

-- the party has no publish on the arc
abbrev pub unpublished : ℕ → Histories → ℕ → Bool
unpublished v k a = not (has_called v is_publish (history k a))

if_may : (d : Deal) (v : ℕ) (k : Histories) → first (due_publishes d v k)
    ≡ option_map (publish_action d) (find (λ a. (leads_one d v || is_ready d k v) && unpublished v k a) (leaving d.graph v))
unfolding is_due_publish
if_may d v k = first_find (λ a. Publish (stated_terms d a)) (is_due_publish d v k) (leaving d.graph v)

pub may : (d : Deal) (v : ℕ) (k : Histories) (b : Bool) (r : Option ℕ) → b ≡ (leads_one d v || is_ready d k v) → b ≡ true
    → r ≡ find (unpublished v k) (leaving d.graph v) → option_map (publish_action d) r ≡ first (due_publishes d v k)
may d v k b r e t h =
    ap (option_map (publish_action d)) (h ∙ ap (λ b. find (λ a. b && unpublished v k a) (leaving d.graph v)) (sym t ∙ e)) ∙ sym (if_may d v k)

pub may_not : (d : Deal) (v : ℕ) (k : Histories) (b : Bool) → b ≡ (leads_one d v || is_ready d k v) → b ≡ false → None ≡ first (due_publishes d v k)
may_not d v k b e f =
    sym (if_may d v k ∙ ap (λ b. option_map (publish_action d) (find (λ a. b && unpublished v k a) (leaving d.graph v))) (sym e ∙ f)
    ∙ ap (option_map (publish_action d)) (find_none (λ a. false) (leaving d.graph v) (λ a. refl)))
