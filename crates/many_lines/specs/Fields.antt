-- The lines of many swaps that are no JSON, field by field, each in its one spelling.
use Rattle.std.specs.Prelude.{ℕ, ◌+◌, ◌&&◌, Bool, not, nat_lt, nat_le, List, [], ◌∷◌, ◌++◌, length, position, codes, slice_index_or}
use Rattle.std.specs.Prelude.{Option, Some, None, Result, Ok, if◌then◌else◌}
use Rattle.std.specs.Str.{bytes_eq}
use Rattle.std.specs.List.{list_any}
use Rattle.swap_base.specs.Fault.{◌>>=◌}
use Rattle.swap_job.specs.declared.job.Finish.{Finish}
use Rattle.swap_job.specs.declared.job.Finish.TheVariants.{Stop, Fair}
use Rattle.offer_header.specs.Names.{is_name}
use Rattle.transcript_book.specs.declared.said.Misspelling.{Misspelling}
use Rattle.transcript_book.specs.Reading.{parse_each_word, parse_first_field, is_word, misspelt, nothing_more, bounded_number}
use Rattle.many_lines.specs.declared.accounts.ChainAccounts.{ChainAccounts}
use Rattle.many_lines.specs.declared.payment.Payment.{Payment}

-- the most units of an account, or of a payment
abbrev pub most_units : ℕ
most_units = 1000000000000000

abbrev pub parse_units : List ℕ → Result ℕ Misspelling
parse_units word = bounded_number (most_units + 1) word

-- ---- a chain's accounts

abbrev pub no_accounts : ChainAccounts
no_accounts = record { names = []; units = [] }

-- the name has the form of a party's, and no account before it has it
abbrev pub is_new_name : List (List ℕ) → List ℕ → Bool
is_new_name names name = is_name name && not (list_any (bytes_eq name) names)

-- there is room for an account of that name
abbrev pub may_add : List (List ℕ) → List ℕ → Bool
may_add names name = nat_lt (length names) 64 && is_new_name names name

-- one more account
unfoldable pub account_added : ChainAccounts → List ℕ → List ℕ → Result ChainAccounts Misspelling
account_added a name word =
    if may_add a.names name then (parse_units word >>= λ units. Ok (record { names = a.names ++ name ∷ []; units = a.units ++ units ∷ [] })) else misspelt

-- further accounts, each a name with its units
abbrev pub further_accounts : ChainAccounts → List (List ℕ) → Result ChainAccounts Misspelling
further_accounts a [] = Ok a
further_accounts a (name ∷ []) = misspelt
further_accounts a (name ∷ word ∷ ws) = account_added a name word >>= λ more. further_accounts more ws

-- 2 to 64 accounts
unfoldable pub history_accounts : List (List ℕ) → Result ChainAccounts Misspelling
history_accounts ws = further_accounts no_accounts ws >>= λ a. if nat_lt 1 (length a.names) then Ok a else misspelt

-- ---- the chains of a swap's arcs, each below the number of chains

unfoldable pub parse_chain_list : ℕ → List (List ℕ) → Result (List ℕ) Misspelling
parse_chain_list count ws = parse_each_word (bounded_number count) ws

-- ---- the finish

abbrev pub parse_finish_word : List ℕ → Result Finish Misspelling
parse_finish_word w = if is_word w (codes "stop") then Ok Stop else if is_word w (codes "fair") then Ok Fair else misspelt

unfoldable pub parse_finish_fields : List (List ℕ) → Result Finish Misspelling
parse_finish_fields ws = do
  finish ← parse_first_field parse_finish_word ws
  u ← nothing_more finish.1
  Ok finish.0

-- ---- events of chains

-- the heights of a tick, 1 to 1,000,000
abbrev pub parse_heights : List ℕ → Result ℕ Misspelling
parse_heights word = bounded_number 1000001 word >>= λ n. if nat_le 1 n then Ok n else misspelt

-- a tick of a chain, which is below the number of chains: the chain, and by how many heights
unfoldable pub parse_chain_tick : ℕ → List (List ℕ) → Result (ℕ × ℕ) Misspelling
parse_chain_tick chains ws = do
  chain ← parse_first_field (bounded_number chains) ws
  by ← parse_first_field parse_heights chain.1
  u ← nothing_more by.1
  Ok (chain.0, by.0)

abbrev pub found_name : Option ℕ → Result ℕ Misspelling
found_name (Some x) = Ok x
found_name None = misspelt

-- the place of an account, by its name
abbrev pub read_account : List (List ℕ) → List ℕ → Result ℕ Misspelling
read_account names name = found_name (position (bytes_eq name) names)

-- a payment between two accounts of a chain, by their names
unfoldable pub parse_payment : ℕ → List (List ℕ) → List (List ℕ) → Result Payment Misspelling
parse_payment chain names ws = do
  from ← parse_first_field (read_account names) ws
  to ← parse_first_field (read_account names) from.1
  units ← parse_first_field parse_units to.1
  u ← nothing_more units.1
  Ok (record { chain = chain; from = from.0; to = to.0; units = units.0 })

-- a payment, by the names of each chain's accounts
unfoldable pub parse_payment_fields : List (List (List ℕ)) → List (List ℕ) → Result Payment Misspelling
parse_payment_fields names ws = do
  chain ← parse_first_field (bounded_number (length names)) ws
  parse_payment chain.0 (slice_index_or names chain.0 []) chain.1

-- a sweep: a swap and its arc
unfoldable pub parse_sweep_fields : List (List ℕ) → Result (ℕ × ℕ) Misspelling
parse_sweep_fields ws = do
  swap ← parse_first_field (bounded_number 256) ws
  arc ← parse_first_field (bounded_number 256) swap.1
  u ← nothing_more arc.1
  Ok (swap.0, arc.0)
