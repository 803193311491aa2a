-- What clearing answers.
use Rattle.std.specs.Prelude.{ℕ, ◌==◌, not, nat_lt, List, [], ◌∷◌, ◌++◌, length, map, Option, Some, None, Result, Ok, Err, if◌then◌else◌}
use Rattle.swap_base.specs.Fault.{◌>>=◌, steps}
use Rattle.swap_digraph.specs.Value.{Graph}
use Rattle.swap_digraph.specs.Graph.{parties, first_is}
use Rattle.time_bounds.specs.Times.{need}
use Rattle.leader_check.specs.Levels.{greatest_level}
use Rattle.swap_clear.specs.declared.proposed.Proposed.{Proposed}
use Rattle.swap_clear.specs.declared.answer.Group.{Group}
use Rattle.swap_clear.specs.declared.answer.Clearing.{Clearing}
use Rattle.swap_clear.specs.declared.fault.ClearReason.{ClearReason}
use Rattle.swap_clear.specs.declared.fault.ClearReason.TheVariants.{TooManyLeaders}
use Rattle.swap_clear.specs.Proposals.{proposals_graph}
use Rattle.swap_clear.specs.Groups.{all_left_out, strong_component, inner_arcs, find_party, own_graph}
use Rattle.swap_clear.specs.Leaders.{choose_leaders, party_cycle}

-- the group of a set and its arcs, with leaders of its own digraph
abbrev pub led_group : List ℕ → List ℕ → Graph → List ℕ → Group
led_group set numbers own leaders = record {
  parties = set;
  arcs = numbers;
  leaders = map (find_party set) leaders;
  cycles = map (λ v. map (find_party set) (party_cycle own leaders v)) leaders;
  bound = need own.n (length leaders) (greatest_level own leaders);
}

abbrev pub few_enough : ℕ → List ℕ → Group → Result Group ClearReason
few_enough number leaders group = if nat_lt 8 (length leaders) then Err (TooManyLeaders number (length leaders)) else Ok group

-- the group of a set and its arcs, unless it has more than 8 leaders
unfoldable pub make_group : ℕ → List ℕ → List ℕ → Graph → Result Group ClearReason
make_group number set numbers own = few_enough number (choose_leaders own) (led_group set numbers own (choose_leaders own))

abbrev pub some_group : Result Group ClearReason → Result (Option Group) ClearReason
some_group made = made >>= λ group. Ok (Some group)

-- the group of v, where v is its least party and there are arcs in it
unfoldable pub next_group : Graph → ℕ → ℕ → Result (Option Group) ClearReason
next_group g number v =
    if not (first_is v (strong_component g v)) then Ok None
    else if length (inner_arcs g (strong_component g v)) == 0 then Ok None
    else some_group (make_group number (strong_component g v) (inner_arcs g (strong_component g v))
    (own_graph g (strong_component g v) (inner_arcs g (strong_component g v))))

abbrev pub with_group : List Group → Option Group → List Group
with_group groups None = groups
with_group groups (Some group) = groups ++ group ∷ []

-- the groups, with that of v
unfoldable pub add_group : Graph → List Group → ℕ → Result (List Group) ClearReason
add_group g groups v = next_group g (length groups) v >>= λ next. Ok (with_group groups next)

-- the groups by their least party, unless one has too many leaders
unfoldable pub cleared_components : Graph → Result (List Group) ClearReason
cleared_components g = steps (add_group g) [] (parties g)

-- what is left out and the groups, or the first reason against the proposals
unfoldable pub cleared_groups : ℕ → List Proposed → Result Clearing ClearReason
cleared_groups n arcs = proposals_graph n arcs >>= λ g. cleared_components g >>= λ groups. Ok (record { left_out = all_left_out g; groups = groups })
