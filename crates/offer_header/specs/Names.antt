-- The names of a header, and the numbers that stand for them.
use Rattle.std.specs.Prelude.{◌≡◌, ◌==◌, ◌&&◌, ◌||◌, ◌++◌, ℕ, ◌<◌, ◌≤◌, List, [], ◌∷◌, Bool, nat_le, nat_eq, length, fold, slice_index}
use Rattle.std.specs.Prelude.{slice_index_or}
use Rattle.std.specs.Prelude.{if◌then◌else◌, false, Result, Ok, Err}
use Rattle.std.specs.Str.{bytes_eq}
use Rattle.std.specs.List.{list_any, list_all}
use Rattle.swap_base.specs.Fault.{◌>>=◌, steps}
use Rattle.command_input.specs.declared.reason.Reason.{Reason}
use Rattle.command_input.specs.declared.reason.Reason.TheVariants.{BadName, Duplicate, Unknown}
use Rattle.offer_moves.specs.Lists.{collected_results}
use Rattle.offer_moves.specs.Names.{party_of_name}
use Rattle.offer_moves.specs.declared.raw.RawMove.{RawMove}
use Rattle.offer_moves.specs.declared.raw.RawMove.TheVariants.{Craft, Raw, Transfer}
use Rattle.offer_header.specs.declared.raw.RawActor.{RawActor}
use Rattle.offer_header.specs.declared.raw.RawActor.TheVariants.{Script, Strategy}
use Rattle.offer_header.specs.declared.raw.RawParty.{RawParty}
use Rattle.offer_header.specs.declared.raw.RawArc.{RawArc}
use Rattle.offer_header.specs.declared.raw.RawLeader.{RawLeader}
use Rattle.offer_header.specs.declared.raw.RawHeader.{RawHeader}
use Rattle.offer_header.specs.declared.names.Ends.{Ends}
use Rattle.offer_header.specs.declared.names.Numbered.{Numbered}

-- a letter, a digit, `_` or `-` in ASCII
abbrev pub is_name_byte : ℕ → Bool
is_name_byte b = (nat_le 97 b && nat_le b 122) || (nat_le 65 b && nat_le b 90) || (nat_le 48 b && nat_le b 57) || b == 95 || b == 45

-- a party's name has 1 to 16 such bytes
unfoldable pub is_name : List ℕ → Bool
is_name name = nat_le 1 (length name) && nat_le (length name) 16 && list_all is_name_byte name

-- the name is that of some party in the header, whatever its form
unfoldable pub known_name : ℕ → List (List ℕ) → List ℕ → Result (Unit {0}) Reason
known_name line all name = if list_any (bytes_eq name) all then Ok tt else Err (Unknown line name)

unfoldable pub all_known : ℕ → List (List ℕ) → List (List ℕ) → Result (Unit {0}) Reason
all_known line all names = steps (λ u name. known_name line all name) tt names

-- the names in a move are those of parties
abbrev pub move_known : ℕ → List (List ℕ) → RawMove → Result (Unit {0}) Reason
move_known line all (Craft n craft) = all_known line all craft.via
move_known line all (Raw n key) = all_known line all key.path
move_known line all (Transfer n to units) = known_name line all to
move_known line all _ = Ok tt

-- where these are the names of the strategies there is one of that name
abbrev pub has_strategy : List (List ℕ) → List ℕ → Bool
has_strategy names name = list_any (bytes_eq name) names

-- no name is a strategy's
abbrev pub no_strategy : List ℕ → Bool
no_strategy name = false

-- the name is that of a strategy
abbrev pub strategy_known : (List ℕ → Bool) → ℕ → List ℕ → Result (Unit {0}) Reason
strategy_known has line name = if has name then Ok tt else Err (Unknown line name)

-- an actor's strategy is known, and the names in its script are those of parties
abbrev pub actor_known : (List ℕ → Bool) → ℕ → List (List ℕ) → RawActor → Result (Unit {0}) Reason
actor_known has line all (Script moves) = steps (λ u mv. move_known line all mv) tt moves
actor_known has line all (Strategy name) = strategy_known has line name
actor_known has line all _ = Ok tt

-- one more name
unfoldable pub name_added : ℕ → List (List ℕ) → RawParty → Result (List (List ℕ)) Reason
name_added line seen p =
    if is_name p.name then (if list_any (bytes_eq p.name) seen then Err (Duplicate line p.name) else Ok (seen ++ p.name ∷ []))
    else Err (BadName line p.name)

-- one more party: its name, and then that of its strategy or those in its script
unfoldable pub name_step : (List ℕ → Bool) → ℕ → List (List ℕ) → List (List ℕ) → RawParty → Result (List (List ℕ)) Reason
name_step has line all seen p = do
  names ← name_added line seen p
  u ← actor_known has line all p.actor
  Ok names

-- the names of the parties in the header, each once
abbrev pub with_name : List (List ℕ) → RawParty → List (List ℕ)
with_name names p = if list_any (bytes_eq p.name) names then names else names ++ p.name ∷ []

abbrev pub names_stated : List RawParty → List (List ℕ)
names_stated parties = fold with_name [] parties

unfoldable pub named_ends : ℕ → List (List ℕ) → RawArc → Result Ends Reason
named_ends line names a = do
  from ← party_of_name line names a.from
  to ← party_of_name line names a.to
  Ok (record { from = from; to = to })

-- one more leader
unfoldable pub leader_step : ℕ → List (List ℕ) → List ℕ → RawLeader → Result (List ℕ) Reason
leader_step line names seen l = do
  k ← party_of_name line names l.party
  if list_any (λ n. nat_eq n k) seen then Err (Duplicate line l.party) else Ok (seen ++ k ∷ [])

-- the ends of the arcs, and then the leaders, where these are the names
abbrev pub resolve_numbers : ℕ → List (List ℕ) → RawHeader → Result Numbered Reason
resolve_numbers line names h = do
  arcs ← collected_results (named_ends line names) h.arcs
  leaders ← steps (leader_step line names) [] h.leaders
  Ok (record { names = names; arcs = arcs; leaders = leaders })

-- the names in their order, and then what has numbers. Each party's strategy is a name that is
-- held, and the names in its script are among all.
abbrev pub assign_checked_numbers : (List ℕ → Bool) → ℕ → List (List ℕ) → RawHeader → Result Numbered Reason
assign_checked_numbers has line all h = do
  names ← steps (name_step has line all) [] h.parties
  resolve_numbers line names h

-- the names in their order, those in scripts among the names that the header states, then the ends
-- of the arcs, then the leaders
unfoldable pub numbered_header : (List ℕ → Bool) → ℕ → RawHeader → Result Numbered Reason
numbered_header has line h = assign_checked_numbers has line (names_stated h.parties) h

-- A name of 1 to 16 bytes of ASCII.
pub record IsName (name : List ℕ) : Type 0 where
  pub size : (1 ≤ length name) × (length name ≤ 16)
  pub ascii : (i : ℕ) → i < length name → slice_index name i < 128

-- The names are well formed and distinct.
pub record AreNames (names : List (List ℕ)) : Type 0 where
  pub name : (p : ℕ) → p < length names → IsName (slice_index_or names p [])
  pub apart : (p q : ℕ) → p < length names → q < length names → slice_index_or names p [] ≡ slice_index_or names q [] → p ≡ q

-- The leaders are distinct numbers below n.
pub record AreLeaders (n : ℕ) (leaders : List ℕ) : Type 0 where
  pub below : (i : ℕ) → i < length leaders → slice_index leaders i < n
  pub apart : (i j : ℕ) → i < length leaders → j < length leaders → slice_index leaders i ≡ slice_index leaders j → i ≡ j

-- The ends of every arc are numbers below n.
pub record AreEnds (n : ℕ) (arcs : List Ends) : Type 0 where
  pub from : (a : ℕ) → a < length arcs → (slice_index_or arcs a (record { from = 0; to = 0 })).from < n
  pub to : (a : ℕ) → a < length arcs → (slice_index_or arcs a (record { from = 0; to = 0 })).to < n

-- Each party has its name, each arc its ends and each leader its number.
pub record IsNumbered (h : RawHeader) (n : Numbered) : Type 0 where
  pub parties : length n.names ≡ length h.parties
  pub names : AreNames n.names
  pub arcs : length n.arcs ≡ length h.arcs
  pub ends : AreEnds (length n.names) n.arcs
  pub leaders : length n.leaders ≡ length h.leaders
  pub leader : AreLeaders (length n.names) n.leaders
