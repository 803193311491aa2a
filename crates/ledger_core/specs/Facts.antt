-- What is asked of a list of entries.
use Rattle.std.specs.Prelude.{◌==◌, ℕ, Bool, true, false, List, Option, is_some, option_map, position, if◌then◌else◌}
use Rattle.std.specs.List.{list_any}
use Rattle.escrow_core.specs.declared.terms.Terms.{Terms}
use Rattle.escrow_core.specs.Terms.{same_terms}
use Rattle.ledger_core.specs.declared.entry.Call.{Call}
use Rattle.ledger_core.specs.declared.entry.Call.TheVariants as calls
use Rattle.ledger_core.specs.declared.entry.What.{What}
use Rattle.ledger_core.specs.declared.entry.What.TheVariants.{Call as Made, Tick}
use Rattle.ledger_core.specs.declared.entry.Entry.{Entry}
use Rattle.ledger_core.specs.declared.facts.Published.{Published}
use Rattle.ledger_core.specs.declared.facts.CallKind.{CallKind}
use Rattle.ledger_core.specs.declared.facts.CallKind.TheVariants.{Publish, Unlock, Claim, Refund}
use Rattle.hashkey_path.specs.declared.hashkey.Hashkey.{Hashkey}
use Rattle.ledger_core.specs.History.{Publication, published, opening, opened, accepted, is_sender}

abbrev pub checked_publication : Terms → Publication → Published
checked_publication t p = record { height = p.height; correct = same_terms p.terms t }

-- the accepted publish, and whether its terms are t
abbrev pub checked_history_publication : Terms → List Entry → Option Published
checked_history_publication t h = option_map (checked_publication t) (published h)

-- the number of the accepted unlock for lock i
abbrev pub opened_number : List Entry → ℕ → Option ℕ
opened_number h i = position (λ e. is_some (opening i e.height (accepted e))) h

-- the hashkey of the accepted unlock for lock i
abbrev pub opened_key : List Entry → ℕ → Option Hashkey
opened_key h i = option_map (λ o. o.key) (opened h i)

abbrev pub is_kind : CallKind → Call → Bool
is_kind Publish (calls.Publish t) = true
is_kind (Unlock i) (calls.Unlock key) = key.lock == i
is_kind Claim calls.Claim = true
is_kind Refund calls.Refund = true
is_kind _ _ = false

-- whether an entry is a call, and no tick
abbrev pub is_call : What → Bool
is_call (Made c) = true
is_call (Tick k) = false

abbrev pub is_of_kind : CallKind → What → Bool
is_of_kind kind (Made c) = is_kind kind c
is_of_kind kind (Tick k) = false

-- whether p made a call of that kind, whatever the reply
abbrev pub has_call : ℕ → CallKind → List Entry → Bool
has_call p kind h = list_any (λ e. if is_sender p e.sender then is_of_kind kind e.what else false) h
