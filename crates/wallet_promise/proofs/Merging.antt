-- Successive ticks told as one, or as more.
use Rattle.std.proofs.Common.{◌≡◌, ◌+◌, Bool, true, false, cond, ◌||◌, List, [], ◌∷◌, ◌++◌, Option, None, refl, sym, ap, ap₂, ◌∙◌}
use Rattle.std.specs.List.{list_any}
use Rattle.swap_base.specs.Lists.{or_else, first_given_answer}
use Rattle.swap_base.proofs.Lists.{first_given_answer-append, and_parts}
use Rattle.escrow_core.specs.declared.reply.Reply.{Reply}
use Rattle.ledger_core.specs.declared.entry.Call.{Call}
use Rattle.ledger_core.specs.declared.entry.What.{What}
use Rattle.ledger_core.specs.declared.entry.What.TheVariants.{Call as Made, Tick}
use Rattle.ledger_core.specs.declared.entry.Entry.{Entry}
use Rattle.ledger_core.specs.History.{height, made_call, accepted, accepted_call, publication, opening, settling, is_sender}
use Rattle.ledger_core.proofs.History.{height_append}
use Rattle.swap_rules.specs.Party.{pick_call}
use Rattle.swap_rules.specs.Rest.{is_ticking, are_ticks}
use Rattle.wallet_promise.specs.BookLaws.{TicksMayBeMerged}
use Rattle.wallet_promise.proofs.Filters.{any-append}

pub no_accepted : (w : What) (r : Reply) → is_ticking w ≡ true → accepted_call w r ≡ None
no_accepted (Made c) r e = absurd (cc e)
no_accepted (Tick k) r e = refl

no_call_in : (w : What) → is_ticking w ≡ true → made_call w ≡ None
no_call_in (Made c) e = absurd (cc e)
no_call_in (Tick k) e = refl

by_none : (b : Bool) (o : Option Call) → o ≡ None → cond b o None ≡ None
by_none true o e = e
by_none false o e = refl

first_none : {B : Type 0} (f : Entry → Option B) (h : List Entry) → ((e : Entry) → is_ticking e.what ≡ true → f e ≡ None) → are_ticks h ≡ true
    → first_given_answer f h ≡ None
first_none f [] n t = refl
first_none f (e ∷ h) n t =
    let k = and_parts (is_ticking e.what) (are_ticks h) t in ap₂ or_else (n e k.0) (first_none f h n k.1)

any_none : (f : Entry → Bool) (h : List Entry) → ((e : Entry) → is_ticking e.what ≡ true → f e ≡ false) → are_ticks h ≡ true → list_any f h ≡ false
any_none f [] n t = refl
any_none f (e ∷ h) n t = let k = and_parts (is_ticking e.what) (are_ticks h) t in ap₂ (λ x y. x || y) (n e k.0) (any_none f h n k.1)

first_three : {B : Type 0} (f : Entry → Option B) (past k rest : List Entry)
    → first_given_answer f (past ++ k ++ rest) ≡ or_else (or_else (first_given_answer f past) (first_given_answer f k)) (first_given_answer f rest)
first_three f past k rest = first_given_answer-append f (past ++ k) rest ∙ ap (λ o. or_else o (first_given_answer f rest)) (first_given_answer-append f past k)

same_first : {B : Type 0} (f : Entry → Option B) (past k h rest : List Entry) → ((e : Entry) → is_ticking e.what ≡ true → f e ≡ None) → are_ticks k ≡ true
    → are_ticks h ≡ true → first_given_answer f (past ++ k ++ rest) ≡ first_given_answer f (past ++ h ++ rest)
same_first f past k h rest n tk th =
    first_three f past k rest
    ∙ (ap (λ o. or_else (or_else (first_given_answer f past) o) (first_given_answer f rest)) (first_none f k n tk ∙ sym (first_none f h n th))
    ∙ sym (first_three f past h rest))

any_three : (f : Entry → Bool) (past k rest : List Entry) → list_any f (past ++ k ++ rest) ≡ ((list_any f past || list_any f k) || list_any f rest)
any_three f past k rest = any-append f (past ++ k) rest ∙ ap (λ o. o || list_any f rest) (any-append f past k)

same_any : (f : Entry → Bool) (past k h rest : List Entry) → ((e : Entry) → is_ticking e.what ≡ true → f e ≡ false) → are_ticks k ≡ true
    → are_ticks h ≡ true → list_any f (past ++ k ++ rest) ≡ list_any f (past ++ h ++ rest)
same_any f past k h rest n tk th =
    any_three f past k rest
    ∙ (ap (λ o. (list_any f past || o) || list_any f rest) (any_none f k n tk ∙ sym (any_none f h n th)) ∙ sym (any_three f past h rest))

height_three : (past k rest : List Entry) → height (past ++ k ++ rest) ≡ height past + height k + height rest
height_three past k rest = height_append (past ++ k) rest ∙ ap (λ n. n + height rest) (height_append past k)

pub ticks_may_be_merged : TicksMayBeMerged
ticks_may_be_merged v past k h rest tk th same = record {
  height = height_three past k rest ∙ (ap (λ n. height past + n + height rest) same ∙ sym (height_three past h rest));
  published =
      same_first (λ e. publication e.height (accepted e)) past k h rest (λ e t. ap (publication e.height) (no_accepted e.what e.reply t)) tk th;
  opened =
      λ i. same_first (λ e. opening i e.height (accepted e)) past k h rest (λ e t. ap (opening i e.height) (no_accepted e.what e.reply t)) tk th;
  settled = same_first (λ e. settling (accepted e)) past k h rest (λ e t. ap settling (no_accepted e.what e.reply t)) tk th;
  calls =
      λ test n. same_any (λ e. test (pick_call v e)) past k h rest
      (λ e t. ap test (by_none (is_sender v e.sender) (made_call e.what) (no_call_in e.what t)) ∙ n) tk th;
}
