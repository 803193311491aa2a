-- What an index keeps beside its entries, and what one more entry makes of it.
use Rattle.std.specs.Prelude.{◌≡◌, ◌+◌, ℕ, Bool, true, false, List, [], ◌∷◌, ◌++◌, Option, Some, None, is_some, length, option_map, replicate}
use Rattle.std.specs.Prelude.{slice_index_or, slice_set, if◌then◌else◌}
use Rattle.swap_base.specs.Lists.{or_else}
use Rattle.escrow_core.specs.declared.terms.Terms.{Terms}
use Rattle.ledger_core.specs.declared.entry.Call.{Call}
use Rattle.ledger_core.specs.declared.entry.Call.TheVariants as calls
use Rattle.ledger_core.specs.declared.entry.What.{What}
use Rattle.ledger_core.specs.declared.entry.What.TheVariants.{Call as Made}
use Rattle.ledger_core.specs.declared.entry.Entry.{Entry}
use Rattle.ledger_core.specs.declared.facts.CallKind.{CallKind}
use Rattle.ledger_core.specs.declared.facts.CallKind.TheVariants.{Publish, Unlock, Claim, Refund}
use Rattle.ledger_core.specs.History.{entry_ticks, accepted, publication, settling, is_sender, height, settled}
use Rattle.ledger_core.specs.Facts.{checked_publication, checked_history_publication, opened_number, has_call}
use Rattle.history_index.specs.Numbers.{call_numbers, published_number}
use Rattle.history_index.specs.declared.kinds.Kinds.{Kinds}
use Rattle.history_index.specs.declared.answers.Answers.{Answers}

-- no call yet
abbrev pub no_kinds : Kinds
no_kinds = record { publish = false; unlock = replicate 8 false; claim = false; refund = false }

-- whether a call of that kind is among them
abbrev pub has_kind : Kinds → CallKind → Bool
has_kind k Publish = k.publish
has_kind k (Unlock i) = slice_index_or k.unlock i false
has_kind k Claim = k.claim
has_kind k Refund = k.refund

-- the kinds with that of one more entry of the party
abbrev pub with_call : Kinds → What → Kinds
with_call k (Made (calls.Publish t)) = record k { publish = true }
with_call k (Made (calls.Unlock key)) = record k { unlock = slice_set k.unlock key.lock true }
with_call k (Made calls.Claim) = record k { claim = true }
with_call k (Made calls.Refund) = record k { refund = true }
with_call k _ = k

-- the numbers of p's entries after an entry with number n
abbrev pub updated_numbers : (n p : ℕ) → Entry → List ℕ → List ℕ
updated_numbers n p e ns = if is_sender p e.sender then ns ++ n ∷ [] else ns

-- the kinds of p's calls after an entry
abbrev pub updated_kinds : ℕ → Entry → Kinds → Kinds
updated_kinds p e ks = if is_sender p e.sender then with_call ks e.what else ks

-- over no entries
abbrev pub no_answers : Answers
no_answers = record { height = 0; published = None; published_number = None; unlocked = replicate 8 None; settled = None }

-- the openings with the number of an accepted unlock, where it is the first of its lock
abbrev pub with_opening : List (Option ℕ) → ℕ → Option Call → List (Option ℕ)
with_opening us n (Some (calls.Unlock key)) = slice_set us key.lock (or_else (slice_index_or us key.lock None) (Some n))
with_opening us n _ = us

-- after an entry with number n
abbrev pub updated_answers : Terms → ℕ → Entry → Answers → Answers
updated_answers t n e a = record {
  height = a.height + entry_ticks e.what;
  published = or_else a.published (option_map (checked_publication t) (publication e.height (accepted e)));
  published_number = or_else a.published_number (if is_some (publication e.height (accepted e)) then Some n else None);
  unlocked = with_opening a.unlocked n (accepted e);
  settled = or_else a.settled (settling (accepted e));
}

-- The answers are those of the scans.
pub record AreAnswers (t : Terms) (h : List Entry) (a : Answers) : Type 0 where
  pub height : a.height ≡ height h
  pub published : a.published ≡ checked_history_publication t h
  pub number : a.published_number ≡ published_number h
  pub places : length a.unlocked ≡ 8
  pub unlocked : (i : ℕ) → slice_index_or a.unlocked i None ≡ opened_number h i
  pub settled : a.settled ≡ settled h

-- The numbers and kinds are those of p's entries.
pub record AreCalls (p : ℕ) (h : List Entry) (ns : List ℕ) (ks : Kinds) : Type 0 where
  pub numbers : ns ≡ call_numbers p h
  pub places : length ks.unlock ≡ 8
  pub kinds : (k : CallKind) → has_kind ks k ≡ has_call p k h
