-- The names of a header.
use Rattle.std.proofs.Common.{Bool, List, [], nat_eq, ℕ}
use Rattle.std.specs.Str.{bytes_eq}
use Rattle.std.specs.List.{list_any}
use Rattle.swap_base.specs.Fault.{steps}
use Rattle.command_input.specs.declared.reason.Reason.TheVariants.{BadName, Duplicate, Unknown}
use Rattle.offer_moves.specs.Lists.{collected_results}
use Rattle.offer_moves.specs.Names.{party_of_name}
use Rattle.offer_moves.specs.declared.raw.RawMove.{RawMove}
use Rattle.offer_moves.specs.declared.raw.RawMove.TheVariants.{Craft, Raw, Transfer}
use Rattle.offer_header.specs.declared.raw.RawActor.{RawActor}
use Rattle.offer_header.specs.declared.raw.RawActor.TheVariants.{Script, Strategy}
use Rattle.offer_header.specs.declared.raw.RawParty.{RawParty}
use Rattle.offer_header.specs.declared.raw.RawArc.{RawArc}
use Rattle.offer_header.specs.declared.raw.RawLeader.{RawLeader}
use Rattle.offer_header.specs.declared.raw.RawHeader.{RawHeader}
use Rattle.offer_header.specs.Names.{is_name, known_name, all_known, move_known, strategy_known, actor_known, name_added, name_step, names_stated, named_ends}
use Rattle.offer_header.specs.Names.{leader_step, resolve_numbers, assign_checked_numbers, numbered_header}
use Rattle.offer_moves.specs.declared.raw.RawMove.TheVariants as raw_kinds
use Rattle.offer_header.specs.declared.raw.RawActor.TheVariants as actor_kinds
use Rattle.program_laws.proofs.Bare.{Bare, onward, landed, refused, choose, each_of_bare, steps_bare}
use Rattle.program_laws.proofs.Fields.{party_of_name_bare}

pub known_bare : (line : ℕ) (all : List (List ℕ)) (name : List ℕ) → Bare (known_name line all name)
unfolding known_name
known_bare line all name = choose (list_any (bytes_eq name) all) _ _ (landed _) (refused (Unknown line name) tt)

pub all_known_bare : (line : ℕ) (all : List (List ℕ)) (names : List (List ℕ)) → Bare (all_known line all names)
unfolding all_known
all_known_bare line all names = steps_bare (λ u name. known_name line all name) (λ u name. known_bare line all name) tt names

pub move_known_bare : (line : ℕ) (all : List (List ℕ)) (x2 : RawMove) → Bare (move_known line all x2)
move_known_bare line all (Craft n craft) = all_known_bare line all craft.via
move_known_bare line all (Raw n key) = all_known_bare line all key.path
move_known_bare line all (Transfer n to units) = known_bare line all to
move_known_bare line all (raw_kinds.Publish a1 a2) = landed _
move_known_bare line all (raw_kinds.Replay a1 a2 a3) = landed _
move_known_bare line all (raw_kinds.Claim a1) = landed _
move_known_bare line all (raw_kinds.Refund a1) = landed _
move_known_bare line all (raw_kinds.Wait a1 a2) = landed _

pub strategy_known_bare : (has : List ℕ → Bool) (line : ℕ) (name : List ℕ) → Bare (strategy_known has line name)
strategy_known_bare has line name = choose (has name) _ _ (landed _) (refused (Unknown line name) tt)

pub actor_known_bare : (has : List ℕ → Bool) (line : ℕ) (all : List (List ℕ)) (x3 : RawActor) → Bare (actor_known has line all x3)
actor_known_bare has line all (Script moves) = steps_bare (λ u mv. move_known line all mv) (λ u mv. move_known_bare line all mv) tt moves
actor_known_bare has line all (Strategy name) = strategy_known_bare has line name
actor_known_bare has line all actor_kinds.Conforming = landed _
actor_known_bare has line all actor_kinds.Manual = landed _

pub name_added_bare : (line : ℕ) (seen : List (List ℕ)) (p : RawParty) → Bare (name_added line seen p)
unfolding name_added
name_added_bare line seen p =
    choose (is_name p.name)
    _ _ (choose (list_any (bytes_eq p.name) seen) _ _ (refused (Duplicate line p.name) tt) (landed _)) (refused (BadName line p.name) tt)

pub name_step_bare : (has : List ℕ → Bool) (line : ℕ) (all : List (List ℕ)) (seen : List (List ℕ)) (p : RawParty) → Bare (name_step has line all seen p)
unfolding name_step
name_step_bare has line all seen p =
    onward (name_added line seen p) _ (name_added_bare line seen p)
    (λ names. onward (actor_known has line all p.actor) _ (actor_known_bare has line all p.actor) (λ u. landed _))

pub ends_of_bare : (line : ℕ) (names : List (List ℕ)) (a : RawArc) → Bare (named_ends line names a)
unfolding named_ends
ends_of_bare line names a =
    onward (party_of_name line names a.from) _ (party_of_name_bare line names a.from)
    (λ from. onward (party_of_name line names a.to) _ (party_of_name_bare line names a.to) (λ to. landed _))

pub leader_step_bare : (line : ℕ) (names : List (List ℕ)) (seen : List ℕ) (l : RawLeader) → Bare (leader_step line names seen l)
unfolding leader_step
leader_step_bare line names seen l =
    onward (party_of_name line names l.party) _ (party_of_name_bare line names l.party)
    (λ k. choose (list_any (λ n. nat_eq n k) seen) _ _ (refused (Duplicate line l.party) tt) (landed _))

pub numbered_by_bare : (line : ℕ) (names : List (List ℕ)) (h : RawHeader) → Bare (resolve_numbers line names h)
numbered_by_bare line names h =
    onward (collected_results (named_ends line names) h.arcs) _ (each_of_bare (named_ends line names) (ends_of_bare line names) h.arcs)
    (λ arcs. onward (steps (leader_step line names) [] h.leaders)
    _ (steps_bare (leader_step line names) (leader_step_bare line names) [] h.leaders) (λ leaders. landed _))

pub numbered_among_bare : (has : List ℕ → Bool) (line : ℕ) (all : List (List ℕ)) (h : RawHeader) → Bare (assign_checked_numbers has line all h)
numbered_among_bare has line all h =
    onward (steps (name_step has line all) [] h.parties)
    _ (steps_bare (name_step has line all) (name_step_bare has line all) [] h.parties) (λ names. numbered_by_bare line names h)

pub numbered_of_bare : (has : List ℕ → Bool) (line : ℕ) (h : RawHeader) → Bare (numbered_header has line h)
unfolding numbered_header
numbered_of_bare has line h = numbered_among_bare has line (names_stated h.parties) h
