-- A header line.
use Rattle.std.proofs.Common.{Bool, List, [], ℕ, ◌+◌, ◌∷◌}
use Rattle.swap_digraph.specs.declared.arc_ends.ArcEnds.{ArcEnds}
use Rattle.swap_job.specs.declared.job.Role.{Role}
use Rattle.swap_job.specs.declared.job.Role.TheVariants.{Script}
use Rattle.offer_moves.specs.Placed.{placed}
use Rattle.offer_header.specs.declared.header.Header.{Header}
use Rattle.swap_job.specs.declared.job.Purpose.{Purpose}
use Rattle.offer_moves.specs.Fields.{parse_data}
use Rattle.offer_header.specs.Raw.{object_header}
use Rattle.offer_header.specs.declared.raw.RawHeader.{RawHeader}
use Rattle.offer_header.specs.Names.{numbered_header}
use Rattle.offer_header.specs.Limits.{limited_value}
use Rattle.offer_header.specs.Scripts.{scripts_placed, role_placed, roles_placed}
use Rattle.offer_header.specs.Header.{placed_header, resolve_header, parse_whole_header}
use Rattle.swap_job.specs.declared.job.Role.TheVariants as role_kinds
use Rattle.program_laws.proofs.Bare.{Bare, onward, landed, steps_bare}
use Rattle.program_laws.proofs.Fields.{object_of_bare}
use Rattle.program_laws.proofs.Raw.{raw_of_bare}
use Rattle.program_laws.proofs.Names.{numbered_of_bare}
use Rattle.program_laws.proofs.Limits.{limited_of_bare}
use Rattle.program_laws.proofs.Placed.{placed_bare}

pub role_placed_bare : (arcs : List ArcEnds) (conforming : List Bool) (line : ℕ) (p : ℕ) (x4 : Role) → Bare (role_placed arcs conforming line p x4)
role_placed_bare arcs conforming line p (Script moves) =
    steps_bare (λ u mv. placed arcs conforming line p mv) (λ u mv. placed_bare arcs conforming line p mv) tt moves
role_placed_bare arcs conforming line p role_kinds.Conforming = landed _
role_placed_bare arcs conforming line p role_kinds.Manual = landed _
role_placed_bare arcs conforming line p (role_kinds.Strategy a1) = landed _

pub roles_placed_bare : (arcs : List ArcEnds) (conforming : List Bool) (line : ℕ) (p : ℕ) (x4 : List Role) → Bare (roles_placed arcs conforming line p x4)
unfolding roles_placed
roles_placed_bare arcs conforming line p [] = landed _
roles_placed_bare arcs conforming line p (role ∷ roles) =
    onward (role_placed arcs conforming line p role)
    _ (role_placed_bare arcs conforming line p role) (λ u. roles_placed_bare arcs conforming line (p + 1) roles)

pub scripts_placed_bare : (line : ℕ) (h : Header) → Bare (scripts_placed line h)
unfolding scripts_placed
scripts_placed_bare line h = roles_placed_bare h.arcs h.conforming line 0 h.roles

pub placed_of_bare : (line : ℕ) (h : Header) → Bare (placed_header line h)
placed_of_bare line h = onward (scripts_placed line h) _ (scripts_placed_bare line h) (λ u. landed _)

pub header_by_bare : (has : List ℕ → Bool) (purpose : Purpose) (line : ℕ) (raw : RawHeader) → Bare (resolve_header has purpose line raw)
header_by_bare has purpose line raw =
    onward (numbered_header has line raw) _ (numbered_of_bare has line raw)
    (λ numbered. onward (limited_value purpose line raw numbered) _ (limited_of_bare purpose line raw numbered) (λ h. placed_of_bare line h))

pub header_of_bare : (has : List ℕ → Bool) (purpose : Purpose) (line : ℕ) (text : List ℕ) → Bare (parse_whole_header has purpose line text)
unfolding parse_whole_header
header_of_bare has purpose line text =
    onward (parse_data line text) _ (object_of_bare line text)
    (λ d. onward (object_header purpose line d) _ (raw_of_bare purpose line d) (λ raw. header_by_bare has purpose line raw))
