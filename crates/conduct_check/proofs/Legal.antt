-- What a legal book gives to the programs that read it.
use Rattle.std.proofs.Common.{◌≡◌, ℕ, ◌<◌, List, [], ◌∷◌, ◌++◌, length, get_or, refl, sym, ap, ◌∙◌, subst, arith, Bool, true, false, cond, not, nat_lt}
use Rattle.std.proofs.Common.{nat_le, ◌&&◌, ◌||◌, IsTrue, Option, Some, None, lt-ltb, ltb-true}
use Rattle.std.specs.Prelude.{filter_map, if◌then◌else◌}
use Rattle.std.specs.List.{list_all, list_any, cons_option, AllByRecursion}
use Rattle.std.proofs.lemmas.Bool.{not-false}
use Rattle.swap_base.specs.Lists.{moments_after_past}
use Rattle.swap_base.proofs.Lists.{and_parts}
use Rattle.swap_digraph.specs.declared.deal.Deal.{Deal}
use Rattle.swap_digraph.specs.declared.deal.Mode.{Mode}
use Rattle.swap_digraph.specs.declared.deal.Mode.TheVariants.{Timelocks, Hashkeys}
use Rattle.swap_digraph.specs.Deal.{path_limit, touches}
use Rattle.escrow_core.specs.declared.reply.Reply.{Reply}
use Rattle.escrow_core.specs.declared.reply.Reply.TheVariants.{Accepted}
use Rattle.ledger_core.specs.declared.entry.Call.{Call}
use Rattle.ledger_core.specs.declared.entry.Call.TheVariants.{Publish, Unlock, Claim, Refund, Transfer}
use Rattle.ledger_core.specs.declared.entry.Sender.{Sender}
use Rattle.ledger_core.specs.declared.entry.Sender.TheVariants.{Party, Clock}
use Rattle.ledger_core.specs.declared.entry.What.{What}
use Rattle.ledger_core.specs.declared.entry.What.TheVariants.{Call as Made, Tick}
use Rattle.ledger_core.specs.declared.entry.Entry.{Entry}
use Rattle.ledger_core.specs.History.{accepted, accepted_call, fit, is_sender, IsLegal, IsLegalEntry, IsLegalMoment, made_call}
use Rattle.ledger_core.specs.Book.{Histories, history, IsLegalBook}
use Rattle.history_index.specs.declared.made.Made.{Made as Numbered}
use Rattle.history_index.specs.Made.{history_calls}
use Rattle.swap_rules.specs.Party.{pick_call}
use Rattle.swap_rules.specs.declared.finding.Finding.TheVariants.{Broke}
use Rattle.swap_rules.specs.Conduct.{keeps, keeps_entry}
use Rattle.swap_rules.specs.Forged.{forges, is_forged}
use Rattle.swap_rules.specs.Findings.{failing}
use Rattle.conduct_check.specs.CallConduct.{HasDealLock}
use Rattle.conduct_check.proofs.OwnArcs.{unsent}
use Rattle.conduct_check.proofs.Unlocks.{sent_of_tick}
use Rattle.conduct_check.proofs.AskedConduct.{accepted_of_tick, made_fails}

pub legal_of : (d : Deal) (b : Histories) (a : ℕ) → IsLegalBook d b → a < length d.graph.arcs → IsLegal d a (history b a)
legal_of d b a l lt = let n = l.one_each in l.legal a (omega arith)

-- Every call of a legal history is for a lock of the deal.

fits_within : (d : Deal) (a : ℕ) (c : Call) → IsTrue (fit d a c) → HasDealLock d (Some c)
fits_within d a (Publish t) f = tt
fits_within d a (Unlock key) f =
    let p =
    and_parts (nat_lt key.lock (length d.leaders) && nat_le (length key.path) (path_limit d) && nat_le (length key.sigs) (path_limit d))
    (list_all (λ v. nat_lt v d.graph.n) key.path) f in
    let q = and_parts (nat_lt key.lock (length d.leaders) && nat_le (length key.path) (path_limit d)) (nat_le (length key.sigs) (path_limit d)) p.0 in
    let r = and_parts (nat_lt key.lock (length d.leaders)) (nat_le (length key.path) (path_limit d)) q.0 in
    ltb-true key.lock (length d.leaders) r.0
fits_within d a Claim f = tt
fits_within d a Refund f = tt
fits_within d a (Transfer to units) f = tt

within_what : (d : Deal) (a : ℕ) (past : List Entry) (s : Sender) (w : What) (at : ℕ) (r : Reply) → IsLegalEntry d a past s w at r
    → HasDealLock d (made_call w)
within_what d a past (Party p) (Made c) at r l = fits_within d a c l.fits
within_what d a past s (Tick k) at r l = tt
within_what d a past Clock (Made c) at r l = absurd l

within_sent : (d : Deal) (w : What) (b : Bool) → HasDealLock d (made_call w) → HasDealLock d (cond b (made_call w) None)
within_sent d w true h = h
within_sent d w false h = tt

within_accepted : (d : Deal) (w : What) (r : Reply) → HasDealLock d (made_call w) → HasDealLock d (accepted_call w r)
within_accepted d (Made c) Accepted h = h
within_accepted d (Made c) _ h = tt
within_accepted d (Tick k) r h = tt

-- whether a call is for a lock of the deal

set_contains_ends : Deal → Option Call → Bool
set_contains_ends d (Some (Unlock key)) = nat_lt key.lock (length d.leaders)
set_contains_ends d _ = true

passes : (d : Deal) (o : Option Call) → HasDealLock d o → set_contains_ends d o ≡ true
unfolding set_contains_ends
passes d None h = refl
passes d (Some (Publish t)) h = refl
passes d (Some (Unlock key)) h = lt-ltb key.lock (length d.leaders) h
passes d (Some Claim) h = refl
passes d (Some Refund) h = refl
passes d (Some (Transfer to units)) h = refl

from_passed : (d : Deal) (o : Option Call) → set_contains_ends d o ≡ true → HasDealLock d o
unfolding set_contains_ends
from_passed d None h = tt
from_passed d (Some (Publish t)) h = tt
from_passed d (Some (Unlock key)) h = ltb-true key.lock (length d.leaders) h
from_passed d (Some Claim) h = tt
from_passed d (Some Refund) h = tt
from_passed d (Some (Transfer to units)) h = tt

is_outside : Deal → Entry → Bool
is_outside d e = not (set_contains_ends d (made_call e.what))

no_tick_outside : (d : Deal) (e : Entry) (k : ℕ) → e.what ≡ Tick k → is_outside d e ≡ false
unfolding is_outside set_contains_ends
no_tick_outside d e k is = ap (λ w. not (set_contains_ends d (made_call w))) is

none_outside : (d : Deal) (a : ℕ) (past h : List Entry) → AllByRecursion (IsLegalMoment d a) (moments_after_past past h) → list_any (is_outside d) h ≡ false
unfolding is_outside
none_outside d a past [] l = refl
none_outside d a past (e ∷ h) l =
    ap (λ b. not b || list_any (is_outside d) h) (passes d (made_call e.what) (within_what d a past e.sender e.what e.height e.reply l.0))
    ∙ none_outside d a (past ++ e ∷ []) h l.1

inside : (d : Deal) (e : Entry) → is_outside d e ≡ false → HasDealLock d (made_call e.what)
unfolding is_outside
inside d e h = from_passed d (made_call e.what) (not-false (set_contains_ends d (made_call e.what)) h)

within_at : (d : Deal) (b : Histories) (a i : ℕ) (ms : List Numbered) (x : Numbered) → IsLegalBook d b → a < length d.graph.arcs
    → ms ≡ history_calls (history b a) → i < length ms → x ≡ get_or ms i x → HasDealLock d (made_call x.entry.what)
within_at d b a i ms x l arc is lt at =
    let h = history b a in
    let small : i < length (history_calls h) = subst (λ (z : List Numbered). i < length z) is lt in
    let same : get_or (history_calls h) i x ≡ x = sym (at ∙ ap (λ (z : List Numbered). get_or z i x) is) in
    subst (λ (z : Numbered). HasDealLock d (made_call z.entry.what)) same
    (inside d (get_or (history_calls h) i x).entry (made_fails (is_outside d) h i x (no_tick_outside d) small
    (none_outside d a [] h (legal_of d b a l arc))))

-- each call of the arc's index is for a lock of the deal
pub call_within : (d : Deal) (b : Histories) (a i v : ℕ) (ms : List Numbered) (x : Numbered) → IsLegalBook d b → a < length d.graph.arcs
    → ms ≡ history_calls (history b a) → i < length ms → x ≡ get_or ms i x → HasDealLock d (pick_call v x.entry)
call_within d b a i v ms x l arc is lt at = within_sent d x.entry.what (is_sender v x.entry.sender) (within_at d b a i ms x l arc is lt at)

pub accepted_within : (d : Deal) (b : Histories) (a i : ℕ) (ms : List Numbered) (x : Numbered) → IsLegalBook d b → a < length d.graph.arcs
    → ms ≡ history_calls (history b a) → i < length ms → x ≡ get_or ms i x → HasDealLock d (accepted x.entry)
accepted_within d b a i ms x l arc is lt at = within_accepted d x.entry.what x.entry.reply (within_at d b a i ms x l arc is lt at)

-- A party that isn't one of the arc's two has no call on it.

kept : (d : Deal) (b : Histories) (v a : ℕ) (past : List Entry) (at : ℕ) (o : Option Call) → o ≡ None → keeps d b v a past at o ≡ true
unfolding keeps
kept d b v a past at o e = ap (keeps d b v a past at) e

none_fails : (d : Deal) (b : Histories) (v a : ℕ) (past h : List Entry) → AllByRecursion (IsLegalMoment d a) (moments_after_past past h)
    → touches d v a ≡ false → filter_map (λ m. if keeps_entry d b v a m then None else Some (Broke v a (length m.past))) (moments_after_past past h) ≡ []
none_fails d b v a past [] l t = refl
none_fails d b v a past (e ∷ h) l t =
    ap (λ x. cons_option (cond x None (Some (Broke v a (length past))))
    (filter_map (λ m. if keeps_entry d b v a m then None else Some (Broke v a (length m.past))) (moments_after_past (past ++ e ∷ []) h)))
    (kept d b v a past e.height (pick_call v e) (unsent d a v past e.sender e.what e.height e.reply l.0 t))
    ∙ none_fails d b v a (past ++ e ∷ []) h l.1 t

pub untouched : (d : Deal) (b : Histories) (v a : ℕ) → IsLegalBook d b → a < length d.graph.arcs → touches d v a ≡ false
    → failing (Broke v a) (keeps_entry d b v a) (history b a) ≡ []
untouched d b v a l arc t = none_fails d b v a [] (history b a) (legal_of d b a l arc) t

-- Ticks keep the rules of conduct.
pub tick_keeps : (d : Deal) (b : Histories) (v a : ℕ) (past : List Entry) (e : Entry) (k : ℕ) → e.what ≡ Tick k
    → keeps_entry d b v a (record { past = past; now = e }) ≡ true
tick_keeps d b v a past e k is = kept d b v a past e.height (pick_call v e) (sent_of_tick v e k is)

unforged : (m : Mode) (d : Deal) (b : Histories) (v : ℕ) (o : Option Call) → o ≡ None → not (forges m d b v o) ≡ true
unfolding forges
unforged Timelocks d b v o e = ap (λ z. not (forges Timelocks d b v z)) e
unforged Hashkeys d b v o e = ap (λ z. not (forges Hashkeys d b v z)) e

-- No tick is forged.
pub tick_is_made : (d : Deal) (b : Histories) (v : ℕ) (e : Entry) (k : ℕ) → e.what ≡ Tick k → not (is_forged d b v e) ≡ true
tick_is_made d b v e k is = unforged d.mode d b v (accepted e) (accepted_of_tick e k is)
